use Rattle.std.proofs.Common.{◌≡◌, ◌++◌, take, flat_map, map}
use Rattle.tas_core.specs.Stretches.{lines_in}
use Rattle.run_texts.specs.Frames.{seen_frame, answer_frames}
use Rattle.run_texts.proofs.frames.add_answers.Given as goal

abbrev pub invariant-loop-stretch : goal.invariant-loop-stretch
invariant-loop-stretch l = map seen_frame l.frames.items ≡ map seen_frame l.fn.frames.items
    ++ flat_map (λ s. flat_map answer_frames (lines_in s)) (take l.stretch-index l.log)
