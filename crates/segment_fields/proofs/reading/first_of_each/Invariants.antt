use Rattle.std.proofs.Common.{length}
use Rattle.segment_fields.specs.Options.{options_past}
use Rattle.segment_fields.proofs.Options.{HaveFound}
use Rattle.segment_fields.proofs.reading.first_of_each.Given as goal

abbrev pub invariant-loop-rest : goal.invariant-loop-rest
invariant-loop-rest l = HaveFound l.mss l.scale (options_past 0 l.rest) (options_past 0 l.fn.options)

abbrev pub decreases-loop-rest : goal.decreases-loop-rest
decreases-loop-rest l = length l.rest
