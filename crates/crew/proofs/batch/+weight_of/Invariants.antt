-- Measures or invariants of batch/+weight_of.
use Rattle.std.proofs.Common.{length}
use Rattle.crew.proofs.batch.+weight_of.Given as goal

abbrev pub decreases-weight_of : goal.decreases-weight_of
decreases-weight_of g l = length l.jobs.now
