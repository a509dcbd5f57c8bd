use Rattle.std.proofs.lemmas.Result.{on_ok_weaker}
use Rattle.ladder_picture.specs.Elements.{counted, path_start, path_end}
use Rattle.ladder_picture.specs.ArrowTexts as texts
use Rattle.ladder_picture.proofs.Appended.{line_joined}
use Rattle.ladder_picture.proofs.arrows.put_line.Goals as goal

pub returns : goal.returns
returns c =
    on_ok_weaker c.put_line_end.result (λ e. line_joined c.args.out.now.items _ _ _
    (path_start (texts.side_name c.args.sender) (texts.lifeline c.args.sender) c.args.from)
    (counted (texts.turn c.args.sender) c.args.to) (texts.way_end c.args.sender) path_end
    c.in_ok-put_line_start.ensures c.in_ok-put_turn.ensures e) c.put_line_end.ensures
