use Rattle.std.proofs.Common.{◌≡◌, ◌++◌, take, flat_map, map}
use Rattle.run_texts.specs.Frames.{seen_frame, entry_frames}
use Rattle.run_texts.proofs.frames.add_flow.Given as goal

abbrev pub invariant-loop-i : goal.invariant-loop-i
invariant-loop-i l = map seen_frame l.frames.items ≡ map seen_frame l.fn.frames.items
    ++ flat_map (flat_map (entry_frames l.flow.tuple)) (take l.i l.stretches)
