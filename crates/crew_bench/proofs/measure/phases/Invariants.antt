use Rattle.std.proofs.Common.{◌≡◌}
use Rattle.crew_bench.proofs.measure.phases.Given as goal

abbrev pub invariant-loop : goal.invariant-loop
invariant-loop g l = l.crew ≡ l.fn.crew
