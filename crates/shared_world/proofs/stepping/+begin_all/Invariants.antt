-- Measures or invariants of stepping/+begin_all.
use Rattle.std.proofs.Common.{length}
use Rattle.shared_world.proofs.stepping.+begin_all.Given as goal

abbrev pub decreases-begin_all : goal.decreases-begin_all
decreases-begin_all g l = length l.hosts.now
