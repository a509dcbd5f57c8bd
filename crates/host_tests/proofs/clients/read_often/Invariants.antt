use Rattle.host_tests.specs.Hosts.{IsClient}
use Rattle.host_tests.proofs.clients.read_often.Given as goal

abbrev pub invariant-loop : goal.invariant-loop
invariant-loop l = IsClient l.shared l.number l.app l.sockets
