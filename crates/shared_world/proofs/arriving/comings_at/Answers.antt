-- Answers of the proof of arriving/comings_at.
use Rattle.std.proofs.Common.{◌++◌, ◌∷◌, [], take, sym, ap, ◌∙◌}
use Rattle.scenario_world.proofs.Lists.{taken_more}
use Rattle.shared_world.specs.Stepping.{frames_to}
use Rattle.shared_world.proofs.Arrivals.{frames_append}
use Rattle.shared_world.proofs.arriving.comings_at.Goals as goal

pub loop-i-preserved : goal.loop-i-preserved
loop-i-preserved c =
    let n = c.args.number in
    let front = take c.loop-i.i c.args.due.now in
    let last = c.get.result.now ∷ [] in
    c.in_ok-take_frame.ensures
    ∙ (ap (λ fs. fs ++ frames_to n last) c.loop-i.invariant
    ∙ sym (ap (frames_to n) (taken_more c.args.due.now c.loop-i.i c.get.result.now c.get.ensures)
    ∙ frames_append n front last))
