-- Measures or invariants of serving/+collect_lanes.
use Rattle.std.proofs.Common.{length}
use Rattle.core_host.proofs.serving.+collect_lanes.Given as goal

abbrev pub decreases-collect_lanes : goal.decreases-collect_lanes
decreases-collect_lanes l = length l.lanes.now
