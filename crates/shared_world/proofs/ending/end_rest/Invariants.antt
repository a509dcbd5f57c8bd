-- Measures or invariants of ending/end_rest.
use Rattle.std.specs.Vec.Iter.{into_iter_len}
use Rattle.shared_world.proofs.ending.end_rest.Given as goal

abbrev pub decreases-loop-host : goal.decreases-loop-host
decreases-loop-host g l = into_iter_len l.left
