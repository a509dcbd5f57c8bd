-- Measures or invariants of hosts/+collect_hosts.
use Rattle.std.proofs.Common.{length}
use Rattle.core_phase.proofs.hosts.+collect_hosts.Given as goal

abbrev pub decreases-collect_hosts : goal.decreases-collect_hosts
decreases-collect_hosts l = length l.hosts.now
