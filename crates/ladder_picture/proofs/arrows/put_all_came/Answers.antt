use Rattle.ladder_picture.specs.ArrowTexts.{came_text}
use Rattle.ladder_picture.proofs.Appended.{one_more}
use Rattle.ladder_picture.proofs.arrows.put_all_came.Goals as goal

pub loop-arrow-preserved : goal.loop-arrow-preserved
loop-arrow-preserved c = one_more (came_text c.args.look.now) c.args.came.now c.loop-arrow.arrow-index _
    c.args.out.now.items c.loop-arrow.out.items _
    c.loop-arrow-test.true c.loop-arrow.invariant c.in_ok-put_came.ensures
