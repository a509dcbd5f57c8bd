use Rattle.std.proofs.Common.{◌≡◌}
use Rattle.crew_tests.proofs.held.HoldingRunTask.run.Given as goal

abbrev pub invariant-loop : goal.invariant-loop
invariant-loop g l = l.crew ≡ l.fn.crew
