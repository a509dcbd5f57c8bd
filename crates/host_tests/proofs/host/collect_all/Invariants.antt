use Rattle.std.proofs.Common.{All}
use Rattle.host_tests.specs.Hosts.{IsCore, IsSlow}
use Rattle.host_tests.proofs.host.collect_all.Given as goal

abbrev pub invariant-loop-core : goal.invariant-loop-core
invariant-loop-core l = IsSlow l.shared l.slow × All (IsCore l.shared) l.workers
