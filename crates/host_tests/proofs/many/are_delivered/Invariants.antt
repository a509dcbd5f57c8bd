use Rattle.host_tests.specs.Hosts.{AreCores}
use Rattle.host_tests.proofs.many.are_delivered.Given as goal

abbrev pub invariant-loop-number : goal.invariant-loop-number
invariant-loop-number g l = AreCores l.shared l.cores
