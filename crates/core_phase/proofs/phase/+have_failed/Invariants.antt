-- Measures or invariants of phase/+have_failed.
use Rattle.std.proofs.Common.{length}
use Rattle.core_phase.proofs.phase.+have_failed.Given as goal

abbrev pub decreases-have_failed : goal.decreases-have_failed
decreases-have_failed l = length l.lanes.now
