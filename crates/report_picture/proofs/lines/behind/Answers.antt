use Rattle.std.proofs.lemmas.Bool.Decides.{Decides-eqb}
use Rattle.std.proofs.lemmas.Slice.Eq.{strip_prefix_is}
use Rattle.report_lines.proofs.Texts.{is_behind}
use Rattle.report_picture.proofs.lines.behind.Goals as goal

pub returns : goal.returns
returns c =
    is_behind c.args.front.now c.args.text.now c.strip_prefix.result
    (strip_prefix_is Decides-eqb c.args.text.now c.args.front.now c.strip_prefix.result
    c.strip_prefix.ensures.cases)
