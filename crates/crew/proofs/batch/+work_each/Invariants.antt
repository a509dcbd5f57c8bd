-- Measures or invariants of batch/+work_each.
use Rattle.std.proofs.Common.{length}
use Rattle.crew.proofs.batch.+work_each.Given as goal

abbrev pub decreases-work_each : goal.decreases-work_each
decreases-work_each g l = length l.jobs.now
