use Rattle.std.proofs.Common.{◌<◌, ◌≤◌}
use Rattle.flow_lock.specs.Callers.{IsUser}
use Rattle.socket_tests.proofs.threads.ask_all.Given as goal

abbrev pub invariant-loop : goal.invariant-loop
invariant-loop g l = IsUser l.table l.pin l.pass × (l.pin.slot < l.table.slots) × (l.calls ≤ 1000)
