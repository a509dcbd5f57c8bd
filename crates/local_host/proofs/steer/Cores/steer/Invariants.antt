use Rattle.std.proofs.Common.{◌≡◌}
use Rattle.local_host.proofs.steer.Cores.steer.Given as goal

abbrev pub invariant-loop-waiting : goal.invariant-loop-waiting
invariant-loop-waiting g l = l.self ≡ l.fn.self
