use Rattle.std.proofs.Common.{◌≡◌, ℕ, ◌≤◌, ◌∙◌, ap, sym, length, arith}
use Rattle.std.specs.Prelude.{Option, unwrap_or}
use Rattle.std.specs.List.{prefix_len}
use Rattle.std.proofs.lemmas.List.Sums.{prefix_len-le-length}
use Rattle.report_lines.specs.Fronts.{is_hex}
use Rattle.report_lines.proofs.Texts.{by_position}
use Rattle.report_lines.proofs.HexRuns.{run_to}
use Rattle.report_lines.proofs.hex.digits_in.Goals as goal

pub returns-clause-count : goal.returns-clause-count
returns-clause-count c =
    c.unwrap_or.ensures
    ∙ (ap (λ (o : Option ℕ). unwrap_or o (length c.args.text.now)) c.first_other.ensures
    ∙ by_position is_hex c.args.text.now)

pub returns-clause-within : goal.returns-clause-within
returns-clause-within c =
    let same : c.unwrap_or.result ≡ prefix_len is_hex c.args.text.now = returns-clause-count c in
    let few : prefix_len is_hex c.args.text.now ≤ length c.args.text.now =
    prefix_len-le-length is_hex c.args.text.now in
    omega (arith, same, few)

pub returns-then-are_hex-clause-count : goal.returns-then-are_hex-clause-count
returns-then-are_hex-clause-count c =
    sym (run_to is_hex c.args.text.now c.word_length-end.result c.word_length-end.ensures.within
    (sym c.are_hex.ensures ∙ c.if-are_hex.true) c.word_length-end.ensures.ended)
