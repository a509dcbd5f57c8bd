-- Measures or invariants of batch/+cut_at.
use Rattle.std.proofs.Common.{length}
use Rattle.crew.proofs.batch.+cut_at.Given as goal

abbrev pub decreases-cut_at : goal.decreases-cut_at
decreases-cut_at g l = length l.jobs.now
