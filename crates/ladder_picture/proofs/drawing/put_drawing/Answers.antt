use Rattle.ladder_picture.specs.Views.{seen_end}
use Rattle.ladder_picture.specs.Drawing as rules
use Rattle.ladder_picture.proofs.Heights.{Drawn, at_heights}
use Rattle.ladder_picture.proofs.Appended.{joined3}
use Rattle.ladder_picture.proofs.drawing.put_drawing.Goals as goal

pub returns : goal.returns
returns c =
    let drawn : Drawn c.args.look.now c.args.absolute (seen_end c.args.left.now) (seen_end c.args.right.now)
    c.args.rungs.now c.args.out.now.items c.put_close.new.out.items c.down.result c.down-2.result c.down-3.result =
    joined3 c.args.out.now.items _ _ _ (rules.begin_text c.down.result)
    (rules.parts_text c.args.look.now (seen_end c.args.left.now) (seen_end c.args.right.now) c.args.rungs.now
    c.down-2.result)
    (rules.close_text c.args.absolute c.down-3.result) c.in_ok-put_begin.ensures c.in_ok-put_parts.ensures
    c.in_ok-put_close.ensures
    in
    at_heights c.args.look.now c.args.absolute (seen_end c.args.left.now) (seen_end c.args.right.now) c.args.rungs.now
    c.args.out.now.items c.put_close.new.out.items c.down.result c.down-2.result c.down-3.result c.bottom-end.result
    c.down.ensures c.down-2.ensures c.down-3.ensures c.bottom-end.ensures drawn
