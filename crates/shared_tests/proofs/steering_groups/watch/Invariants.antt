use Rattle.std.proofs.Common.{◌≡◌}
use Rattle.shared_tests.proofs.steering_groups.watch.Given as goal

abbrev pub invariant-loop : goal.invariant-loop
invariant-loop g l = l.pass.place ≡ l.steering
