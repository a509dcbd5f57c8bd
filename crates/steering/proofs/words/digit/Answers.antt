use Rattle.std.proofs.Common.{◌≡◌, ◌*◌, ◌/◌, ◌%◌, ◌^◌, ◌<◌, subst, ap, sym, ◌∙◌}
use Rattle.std.specs.Prelude.{bit_and, slice_index}
use Rattle.std.proofs.lemmas.Nat.{and_mask}
use Rattle.steering.specs.Words.{digits}
use Rattle.steering.proofs.Digits.{pow-four, digits_at, digit-below}
use Rattle.steering.proofs.words.digit.Goals as goal

pub returns-clause-number : goal.returns-clause-number
returns-clause-number c =
    and_mask (c.args.word / 2 ^ (4 * c.args.place)) 4
    ∙ (ap (λ p. c.args.word / p % 16) (pow-four c.args.place)
    ∙ sym (digits_at 16 c.args.place c.args.word c.requires))

pub returns-clause-below : goal.returns-clause-below
returns-clause-below c =
    let e : bit_and (c.args.word / 2 ^ (4 * c.args.place)) 15 ≡ slice_index (digits 16 c.args.word) c.args.place =
    returns-clause-number c in
    subst (λ n. n < 16) (sym e) (digit-below 16 c.args.place c.args.word c.requires)
