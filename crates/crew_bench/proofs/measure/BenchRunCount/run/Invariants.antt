use Rattle.std.proofs.Common.{◌≡◌}
use Rattle.crew_bench.proofs.measure.BenchRunCount.run.Given as goal

abbrev pub invariant-loop-length : goal.invariant-loop-length
invariant-loop-length g l = l.crew ≡ l.fn.crew
