use Rattle.std.proofs.Common.{None}
use Rattle.std.proofs.lemmas.Result.{on_ok_weaker}
use Rattle.ladder_picture.specs.ArrowTexts as texts
use Rattle.ladder_picture.proofs.Appended.{joined4}
use Rattle.ladder_picture.proofs.arrows.put_came.Goals as goal

pub returns : goal.returns
returns c =
    on_ok_weaker c.put_came_label.result (λ e. joined4 c.args.out.now.items _ _ _ _
    (texts.came_line c.args.look.now c.args.came.now.sender c.args.came.now.y)
    (texts.ring_text c.args.look.now c.args.came.now.y)
    (texts.head_text c.args.came.now.sender c.args.came.now.y None)
    (texts.came_label c.args.look.now c.args.came.now) c.in_ok-put_came_line.ensures c.in_ok-put_ring.ensures
    c.in_ok-put_head.ensures e) c.put_came_label.ensures
