use Rattle.host_tests.specs.Hosts.{AreReady, AreTalking}
use Rattle.host_tests.proofs.threads.rounds.Given as goal

abbrev pub invariant-loop-tick : goal.invariant-loop-tick
invariant-loop-tick g l = AreReady l.shared l.host.slow l.host.cores × AreTalking l.shared l.host.clients
