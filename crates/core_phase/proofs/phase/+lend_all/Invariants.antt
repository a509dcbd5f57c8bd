-- Measures or invariants of phase/+lend_all.
use Rattle.std.proofs.Common.{length}
use Rattle.core_phase.proofs.phase.+lend_all.Given as goal

abbrev pub decreases-lend_all : goal.decreases-lend_all
decreases-lend_all l = length l.lanes.now
