use Rattle.std.proofs.Common.{◌≡◌, ◌++◌, take, flat_map, map}
use Rattle.run_texts.specs.Frames.{seen_frame, flow_frames, history_of}
use Rattle.run_texts.proofs.frames.add_flows.Given as goal

abbrev pub invariant-loop-flow : goal.invariant-loop-flow
invariant-loop-flow l = map seen_frame l.frames.items ≡ map seen_frame l.fn.frames.items
    ++ flat_map (λ f. flow_frames (history_of f)) (take l.flow-index l.flows)
