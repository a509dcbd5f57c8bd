-- Measures or invariants of closing/+are_closed.
use Rattle.std.proofs.Common.{length}
use Rattle.shared_world.proofs.closing.+are_closed.Given as goal

abbrev pub decreases-are_closed : goal.decreases-are_closed
decreases-are_closed l = length l.hosts.now
