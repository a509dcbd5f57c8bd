use Rattle.std.proofs.Common.{◌≡◌, ◌++◌, take}
use Rattle.std.specs.Prelude.{flat_map}
use Rattle.ladder_picture.specs.Drawing.{rung_text}
use Rattle.ladder_picture.proofs.drawing.put_rungs.Given as goal

abbrev pub invariant-loop-rung : goal.invariant-loop-rung
invariant-loop-rung l = l.out.items ≡ l.fn.out.items ++ flat_map rung_text (take l.rung-index l.rungs)
