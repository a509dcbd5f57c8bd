-- Measures or invariants of hosts/+lend_hosts.
use Rattle.std.proofs.Common.{length}
use Rattle.core_phase.proofs.hosts.+lend_hosts.Given as goal

abbrev pub decreases-lend_hosts : goal.decreases-lend_hosts
decreases-lend_hosts l = length l.hosts.now
