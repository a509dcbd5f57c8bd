use Rattle.std.proofs.Common.{◌≡◌}
use Rattle.flow_lock.specs.Callers.{IsGuest}
use Rattle.socket_tests.proofs.threads.visit_all.Given as goal

abbrev pub invariant-loop : goal.invariant-loop
invariant-loop l = IsGuest l.table l.pass × (l.table.slots ≡ 2)
