use Rattle.std.specs.Prelude.{codes}
use Rattle.std.proofs.lemmas.Result.{on_ok_weaker}
use Rattle.ladder_picture.specs.Elements.{counted}
use Rattle.ladder_picture.proofs.Appended.{joined8}
use Rattle.ladder_picture.proofs.text.put_text_start.Goals as goal

pub returns : goal.returns
returns c =
    on_ok_weaker c.put-7.result (λ e. joined8 c.args.out.now.items _ _ _ _ _ _ _ _ (codes "<text class=\"")
    c.args.class.now (codes "\" x=\"") c.args.x.now (counted (codes "\" y=\"") c.args.y) (codes "\" dy=\"")
    c.args.dy.now (codes "\">") c.in_ok-put.ensures c.in_ok-put-2.ensures c.in_ok-put-3.ensures
    c.in_ok-put-4.ensures c.in_ok-put_counted.ensures c.in_ok-put-5.ensures c.in_ok-put-6.ensures e)
    c.put-7.ensures
