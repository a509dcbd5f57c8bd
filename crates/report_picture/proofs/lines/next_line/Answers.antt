use Rattle.std.proofs.Common.{◌+◌, sym, ◌∙◌, arith}
use Rattle.std.proofs.lemmas.Bool.Decides.{nat_tests}
use Rattle.std.proofs.lemmas.List.{take_rest}
use Rattle.trace_audit.proofs.FirstLines.{line_at, line_alone}
use Rattle.report_picture.proofs.lines.next_line.Goals as goal

pub returns-in-Some-clause-lines : goal.returns-in-Some-clause-lines
returns-in-Some-clause-lines c =
    rw (take_rest c.args.text.now (c.in-Some.at + 1))
    (line_at c.args.text.now c.in-Some.at (sym c.place_of.ensures ∙ c.in-Some.is))

pub returns-in-None-clause-lines : goal.returns-in-None-clause-lines
returns-in-None-clause-lines c =
    line_alone c.args.text.now (sym c.place_of.ensures ∙ c.in-None.is)
    (λ none. grind (arith, nat_tests, none, c.is_empty.ensures, c.if-is_empty.false))
