-- Measures or invariants of phase/+collect_all.
use Rattle.std.proofs.Common.{length}
use Rattle.core_phase.proofs.phase.+collect_all.Given as goal

abbrev pub decreases-collect_all : goal.decreases-collect_all
decreases-collect_all l = length l.lanes.now
