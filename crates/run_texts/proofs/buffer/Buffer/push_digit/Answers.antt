use Rattle.std.proofs.Common.{ℕ, List, ◌++◌, ap, sym, ◌∙◌}
use Rattle.std.proofs.lemmas.Fmt.{decimal_digit}
use Rattle.run_texts.proofs.buffer.Buffer.push_digit.Goals as goal

pub returns : goal.returns
returns c = c.push.ensures
    ∙ ap (λ (l : List ℕ). c.args.self.now ++ l) (sym (decimal_digit c.args.number c.requires.small))
