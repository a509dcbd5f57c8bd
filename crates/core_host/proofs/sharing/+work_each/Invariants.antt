-- Measures or invariants of sharing/+work_each.
use Rattle.std.proofs.Common.{length}
use Rattle.core_host.proofs.sharing.+work_each.Given as goal

abbrev pub decreases-work_each : goal.decreases-work_each
decreases-work_each g l = length l.lanes.now
