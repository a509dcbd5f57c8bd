use Rattle.std.specs.Prelude.{codes}
use Rattle.std.proofs.lemmas.Result.{on_ok_weaker}
use Rattle.ladder_picture.specs.Elements.{counted}
use Rattle.ladder_picture.proofs.Appended.{joined5}
use Rattle.ladder_picture.proofs.text.put_path_start.Goals as goal

pub returns : goal.returns
returns c =
    on_ok_weaker c.put_counted.result (λ e. joined5 c.args.out.now.items _ _ _ _ _ (codes "<path class=\"")
    c.args.class.now (codes "\" d=\"M") c.args.x.now (counted (codes " ") c.args.y) c.in_ok-put.ensures
    c.in_ok-put-2.ensures c.in_ok-put-3.ensures c.in_ok-put-4.ensures e) c.put_counted.ensures
