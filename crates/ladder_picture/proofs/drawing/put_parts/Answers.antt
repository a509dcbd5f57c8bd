use Rattle.std.specs.Prelude.{flat_map}
use Rattle.std.proofs.lemmas.Result.{on_ok_weaker}
use Rattle.ladder_picture.specs.declared.rungs.Side.TheVariants.{Left, Right}
use Rattle.ladder_picture.specs.ArrowTexts.{arrows_text}
use Rattle.ladder_picture.specs.Views.{seen_end}
use Rattle.ladder_picture.specs.Drawing as rules
use Rattle.ladder_picture.proofs.Appended.{joined7}
use Rattle.ladder_picture.proofs.drawing.put_parts.Goals as goal

pub returns : goal.returns
returns c =
    on_ok_weaker c.put_arrows.result (λ e. joined7 c.args.out.now.items _ _ _ _ _ _ _
    (rules.line_text Left c.args.end) (rules.line_text Right c.args.end) rules.tick_head
    (rules.end_text Left (seen_end c.args.left.now)) (rules.end_text Right (seen_end c.args.right.now))
    (flat_map rules.rung_text c.args.rungs.now) (arrows_text c.args.look.now c.args.rungs.now)
    c.in_ok-put_lifeline.ensures c.in_ok-put_lifeline-2.ensures c.in_ok-put_tick_head.ensures
    c.in_ok-put_end_name.ensures c.in_ok-put_end_name-2.ensures c.in_ok-put_rungs.ensures e)
    c.put_arrows.ensures
