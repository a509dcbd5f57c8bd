use Rattle.std.proofs.Common.{◌≡◌, ◌≤◌, ℕ, ◌∙◌, ap, length, arith, not}
use Rattle.std.specs.Prelude.{◌==◌, Option, unwrap_or}
use Rattle.std.specs.List.{prefix_len}
use Rattle.std.proofs.lemmas.List.Sums.{prefix_len-le-length}
use Rattle.report_picture.proofs.Texts.{up_to}
use Rattle.report_picture.proofs.lines.length_before.Goals as goal

pub returns-clause-count : goal.returns-clause-count
returns-clause-count c =
    c.unwrap_or.ensures
    ∙ (ap (λ (o : Option ℕ). unwrap_or o (length c.args.text.now)) c.place_of.ensures
    ∙ up_to (λ (x : ℕ). x == c.args.byte) c.args.text.now)

pub returns-clause-within : goal.returns-clause-within
returns-clause-within c =
    let same : c.unwrap_or.result ≡ prefix_len (λ (x : ℕ). not (x == c.args.byte)) c.args.text.now =
    returns-clause-count c in
    let few : prefix_len (λ (x : ℕ). not (x == c.args.byte)) c.args.text.now ≤ length c.args.text.now =
    prefix_len-le-length (λ (x : ℕ). not (x == c.args.byte)) c.args.text.now in
    omega (arith, same, few)
