use Rattle.std.proofs.Common.{◌≡◌}
use Rattle.crew_bench.proofs.play.PhasesRunCount.run.Given as goal

abbrev pub invariant-loop : goal.invariant-loop
invariant-loop g l = l.crew ≡ l.fn.crew
