use Rattle.std.proofs.Common.{◌≡◌, take}
use Rattle.ladder_picture.specs.Drawing.{bottom}
use Rattle.ladder_picture.proofs.drawing.bottom.Given as goal

abbrev pub invariant-loop-rung : goal.invariant-loop-rung
invariant-loop-rung l = l.y ≡ bottom (take l.rung-index l.rungs)
