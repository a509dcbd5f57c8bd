use Rattle.host_tests.specs.Hosts.{AreCores}
use Rattle.host_tests.proofs.host.deliver_all.Given as goal

abbrev pub invariant-loop-peer : goal.invariant-loop-peer
invariant-loop-peer g l = AreCores l.shared l.cores
