-- Measures or invariants of again/+are_tried_again.
use Rattle.std.proofs.Common.{length}
use Rattle.phase_tests.proofs.again.+are_tried_again.Given as goal

abbrev pub decreases-are_tried_again : goal.decreases-are_tried_again
decreases-are_tried_again l = length l.lanes.now
