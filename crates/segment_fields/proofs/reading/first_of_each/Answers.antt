use Rattle.std.proofs.Common.{arith}
use Rattle.std.proofs.lemmas.Grind.{common_steps}
use Rattle.segment_fields.proofs.Options.{past_skips}
use Rattle.segment_fields.proofs.reading.first_of_each.Goals as goal

pub loop-rest-preserved : goal.loop-rest-preserved
loop-rest-preserved c =
    let inside = c.in-Skips.ensures.inside in
    let skips = past_skips c.loop-rest.rest.now c.in-Skips.count inside.0 c.in-Skips.ensures.text in
    grind (arith, common_steps, skips, c.loop-rest.invariant, inside)
