use Rattle.std.specs.Prelude.{codes}
use Rattle.std.proofs.lemmas.Result.{on_ok_weaker}
use Rattle.ladder_picture.specs.Elements.{text_start, text_end}
use Rattle.ladder_picture.specs.Drawing as rules
use Rattle.ladder_picture.proofs.Appended.{joined4}
use Rattle.ladder_picture.proofs.drawing.put_close.Goals as goal

pub returns : goal.returns
returns c =
    on_ok_weaker c.put.result (λ e. joined4 c.args.out.now.items _ _ _ _
    (text_start (codes "key") (codes "354") c.args.y (codes "0")) (rules.key_words c.args.absolute) text_end
    (codes "</svg>\n") c.in_ok-put_text_start.ensures c.in_ok-put_key_words.ensures c.in_ok-put_text_end.ensures
    e) c.put.ensures
