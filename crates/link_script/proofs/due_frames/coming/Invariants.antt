use Rattle.std.proofs.Common.{◌≡◌, ◌++◌}
use Rattle.std.specs.List.{flat_map}
use Rattle.link_script.specs.DueFrames.{coming_after}
use Rattle.link_script.proofs.due_frames.coming.Given as goal

abbrev pub invariant-loop-delay : goal.invariant-loop-delay
invariant-loop-delay l = l.frames.items ++ flat_map (coming_after l.script l.emitted l.tick) l.delay-iterator
    ≡ flat_map (coming_after l.script l.emitted l.tick) l.delays.keys
