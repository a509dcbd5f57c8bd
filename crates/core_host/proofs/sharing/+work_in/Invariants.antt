-- Measures or invariants of sharing/+work_in.
use Rattle.std.proofs.Common.{length}
use Rattle.core_host.proofs.sharing.+work_in.Given as goal

abbrev pub decreases-work_in : goal.decreases-work_in
decreases-work_in l = length l.hosts.now
