use Rattle.std.proofs.Common.{◌≡◌, rules, map, length, slice_get, Some, refl}
use Rattle.std.proofs.lemmas.Option.{slice_get_read}
use Rattle.run_texts.specs.Frames.{seen_frame, flow_frames, history_of}
use Rattle.run_texts.proofs.Ordered.{frames_more, frames_whole}
use Rattle.run_texts.proofs.frames.add_flows.Goals as goal

pub returns : goal.returns
returns c =
    frames_whole history_of flow_frames c.args.flows.now c.loop-flow.flow-index (map seen_frame c.args.frames.now.items)
    _ (search rules) c.loop-flow.invariant

pub loop-flow-preserved : goal.loop-flow-preserved
loop-flow-preserved c =
    let flows = c.args.flows.now in
    let i = c.loop-flow.flow-index in
    let here : slice_get flows i ≡ Some c.flow-item.result =
    slice_get_read flows (length flows) i c.flow-item.result refl c.loop-flow-test.true c.flow-item.is in
    frames_more (λ f. flow_frames (history_of f)) flows i c.flow-item.result (map seen_frame c.args.frames.now.items)
    (map seen_frame c.loop-flow.frames.items) _ here c.loop-flow.invariant c.in_ok-add_flow.ensures
