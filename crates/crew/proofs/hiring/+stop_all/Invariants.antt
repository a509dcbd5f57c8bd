-- Measures or invariants of hiring/+stop_all.
use Rattle.std.proofs.Common.{length}
use Rattle.crew.proofs.hiring.+stop_all.Given as goal

abbrev pub decreases-stop_all : goal.decreases-stop_all
decreases-stop_all g l = length l.posts.now.items
