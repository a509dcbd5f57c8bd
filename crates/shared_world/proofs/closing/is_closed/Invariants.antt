-- Measures or invariants of closing/is_closed.
use Rattle.shared_world.proofs.Closed.{AreClosedTo}
use Rattle.shared_world.proofs.closing.is_closed.Given as goal

-- the flows before the place are closed
abbrev pub invariant-loop-place : goal.invariant-loop-place
invariant-loop-place l = AreClosedTo l.fn.host l.host l.place l.at
