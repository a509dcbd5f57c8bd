use Rattle.host_tests.specs.Hosts.{IsReading}
use Rattle.host_tests.proofs.asleep.run_task.Given as goal

abbrev pub invariant-loop : goal.invariant-loop
invariant-loop g l = IsReading l.shared l.socket l.app
