-- Measures or invariants of sharing/+begin_all.
use Rattle.std.proofs.Common.{length}
use Rattle.core_host.proofs.sharing.+begin_all.Given as goal

abbrev pub decreases-begin_all : goal.decreases-begin_all
decreases-begin_all l = length l.lanes.now
