use Rattle.std.proofs.Common.{◌∙◌, sym, ap, take}
use Rattle.std.proofs.lemmas.List.{take_more}
use Rattle.ladder_picture.specs.Rungs.{top}
use Rattle.ladder_picture.specs.Drawing.{bottom}
use Rattle.ladder_picture.proofs.Sides.{last_height}
use Rattle.ladder_picture.proofs.drawing.bottom.Goals as goal

pub loop-rung-preserved : goal.loop-rung-preserved
loop-rung-preserved c =
    sym (ap bottom (take_more c.args.rungs.now c.loop-rung.rung-index _ c.loop-rung-test.true)
    ∙ last_height top (take c.loop-rung.rung-index c.args.rungs.now) _)
