use Rattle.std.proofs.Common.{◌≤◌}
use Rattle.core_worker.proofs.Turns.{Kicking, HasRoomOf}
use Rattle.core_worker.proofs.worker.CoreWorker.take_kicks.Given as goal

abbrev pub invariant-loop : goal.invariant-loop
invariant-loop g l =
    Kicking l.shared l.tick l.counter l.fn.self l.self × HasRoomOf l.shared l.fn.self.core l.end × (l.counter ≤ l.end)
