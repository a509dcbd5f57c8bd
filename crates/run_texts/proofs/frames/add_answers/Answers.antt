use Rattle.std.proofs.Common.{rules, ◌≡◌, ◌++◌, map, flat_map, length, slice_get, Some, refl, ap, ◌∙◌}
use Rattle.std.proofs.lemmas.List.{take_all}
use Rattle.std.proofs.lemmas.Option.{slice_get_read}
use Rattle.tas_core.specs.Stretches.{lines_in}
use Rattle.run_texts.specs.Frames.{seen_frame, answer_frames}
use Rattle.run_texts.proofs.LogRuns.{lines_by}
use Rattle.run_texts.proofs.Ordered.{frames_more}
use Rattle.run_texts.proofs.frames.add_answers.Goals as goal

pub loop-stretch-preserved : goal.loop-stretch-preserved
loop-stretch-preserved c =
    let log = c.args.log.now in
    let i = c.loop-stretch.stretch-index in
    let here : slice_get log i ≡ Some c.stretch-item.result =
    slice_get_read log (length log) i c.stretch-item.result refl c.loop-stretch-test.true c.stretch-item.is in
    frames_more (λ s. flat_map answer_frames (lines_in s)) log i c.stretch-item.result
    (map seen_frame c.args.frames.now.items) (map seen_frame c.loop-stretch.frames.items) _ here
    c.loop-stretch.invariant c.in_ok-add_answers_in.ensures

pub returns : goal.returns
returns c =
    let log = c.args.log.now in
    c.loop-stretch.invariant ∙ ap (λ t. map seen_frame c.args.frames.now.items ++ t)
    (ap (flat_map (λ s. flat_map answer_frames (lines_in s))) (take_all c.loop-stretch.stretch-index log (search rules))
    ∙ lines_by answer_frames log)
