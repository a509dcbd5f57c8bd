use Rattle.std.specs.Prelude.{codes}
use Rattle.std.proofs.lemmas.Result.{on_ok_weaker}
use Rattle.ladder_picture.specs.Elements.{counted}
use Rattle.ladder_picture.specs.Drawing as rules
use Rattle.ladder_picture.proofs.Appended.{joined5}
use Rattle.ladder_picture.proofs.drawing.put_begin.Goals as goal

pub returns : goal.returns
returns c =
    on_ok_weaker c.put-2.result (λ e. joined5 c.args.out.now.items _ _ _ _ _
    (counted (codes "<svg xmlns=\"http://www.w3.org/2000/svg\" version=\"1.1\" width=\"1200\" height=\"") c.args.height)
    (counted (codes "\" viewBox=\"0 0 1200 ") c.args.height) (codes "\">\n") rules.style
    (codes "<rect width=\"100%\" height=\"100%\" fill=\"#fff\"/>\n") c.in_ok-put_counted.ensures
    c.in_ok-put_counted-2.ensures c.in_ok-put.ensures c.in_ok-put_style.ensures e) c.put-2.ensures
