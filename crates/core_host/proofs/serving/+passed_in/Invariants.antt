-- Measures or invariants of serving/+passed_in.
use Rattle.std.proofs.Common.{length}
use Rattle.core_host.proofs.serving.+passed_in.Given as goal

abbrev pub decreases-passed_in : goal.decreases-passed_in
decreases-passed_in l = length l.lanes.now
