use Rattle.std.proofs.Common.{take}
use Rattle.ladder_picture.specs.Arrows.{passes}
use Rattle.ladder_picture.specs.Joined.{AreOf}
use Rattle.ladder_picture.proofs.joins.arrows_of.Given as goal

abbrev pub invariant-loop-rung : goal.invariant-loop-rung
invariant-loop-rung l = AreOf l.arrows (passes (take l.rung-index l.rungs))
