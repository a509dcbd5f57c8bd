use Rattle.std.proofs.Common.{◌≡◌, ◌<◌}
use Rattle.flow_lock.specs.Callers.{IsKeeper, IsOwner}
use Rattle.socket_tests.proofs.threads.swept.Given as goal

abbrev pub invariant-loop : goal.invariant-loop
invariant-loop g l =
    IsKeeper l.table l.slow × IsOwner l.pin l.slow × (l.pin.slot < l.table.slots)
    × (l.slow.view.opened ≡ l.fn.slow.view.opened)
