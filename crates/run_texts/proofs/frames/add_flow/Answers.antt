use Rattle.std.proofs.Common.{◌++◌, rules, map, flat_map, ap, ◌∙◌}
use Rattle.std.proofs.lemmas.List.{take_all}
use Rattle.flow_state.specs.Views.{seen_stretch}
use Rattle.run_texts.specs.Frames.{seen_frame, entry_frames}
use Rattle.run_texts.proofs.Ordered.{frames_more}
use Rattle.run_texts.proofs.Quiet.{joined_by}
use Rattle.run_texts.proofs.frames.add_flow.Goals as goal

pub loop-i-preserved : goal.loop-i-preserved
loop-i-preserved c =
    frames_more (flat_map (entry_frames c.args.flow.now.tuple)) c.stretches-stretches.result c.loop-i.i
    (seen_stretch c.get.result) (map seen_frame c.args.frames.now.items)
    (map seen_frame c.loop-i.frames.items) _ c.get.ensures.entries c.loop-i.invariant (search rules)

pub returns : goal.returns
returns c =
    let f = entry_frames c.args.flow.now.tuple in
    c.loop-i.invariant ∙ ap (λ t. map seen_frame c.args.frames.now.items
    ++ t) (ap (flat_map (flat_map f)) (take_all c.loop-i.i c.stretches-stretches.result (search rules))
    ∙ (joined_by f c.stretches-stretches.result ∙ ap (flat_map f) c.stretches-stretches.ensures))
