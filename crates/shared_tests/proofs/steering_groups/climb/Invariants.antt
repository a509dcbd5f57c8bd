use Rattle.std.proofs.Common.{◌≡◌}
use Rattle.shared_tests.proofs.steering_groups.climb.Given as goal

abbrev pub invariant-loop-core : goal.invariant-loop-core
invariant-loop-core g l = l.pass.place ≡ l.steering
