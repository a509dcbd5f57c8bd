use Rattle.std.proofs.Common.{◌≡◌, ◌++◌, take}
use Rattle.std.specs.List.{flat_map}
use Rattle.link_script.specs.DueFrames.{coming_of}
use Rattle.link_script.proofs.due_frames.take_after.Given as goal

abbrev pub invariant-loop-frame : goal.invariant-loop-frame
invariant-loop-frame l = l.frames.items ≡ l.fn.frames.items
    ++ flat_map (coming_of l.script l.tick) (take l.frame-index l.frame-items)
