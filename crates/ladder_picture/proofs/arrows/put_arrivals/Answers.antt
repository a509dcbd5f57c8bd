use Rattle.ladder_picture.specs.ArrowTexts.{arrival_text}
use Rattle.ladder_picture.proofs.Appended.{one_more}
use Rattle.ladder_picture.proofs.arrows.put_arrivals.Goals as goal

pub loop-end-preserved : goal.loop-end-preserved
loop-end-preserved c = one_more (arrival_text c.args.sender c.args.y) c.args.ends.now c.loop-end.end-index _
    c.args.out.now.items c.loop-end.out.items _
    c.loop-end-test.true c.loop-end.invariant c.in_ok-put_arrival.ensures
