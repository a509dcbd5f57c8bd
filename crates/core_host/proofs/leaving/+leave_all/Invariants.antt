-- Measures or invariants of leaving/+leave_all.
use Rattle.std.proofs.Common.{length}
use Rattle.core_host.proofs.leaving.+leave_all.Given as goal

abbrev pub decreases-leave_all : goal.decreases-leave_all
decreases-leave_all l = length l.leavers.now
