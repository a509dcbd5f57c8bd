-- Measures or invariants of stepping/+end_all.
use Rattle.std.proofs.Common.{length}
use Rattle.shared_world.proofs.stepping.+end_all.Given as goal

abbrev pub decreases-end_all : goal.decreases-end_all
decreases-end_all l = length l.hosts.now
