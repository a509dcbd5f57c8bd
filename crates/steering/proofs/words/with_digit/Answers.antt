use Rattle.std.proofs.Common.{◌≡◌, ℕ, ◌-◌, ◌*◌, ◌%◌, ◌^◌, ◌<◌, ◌≤◌, ap, ◌∙◌, arith, mul-le-mul_right}
use Rattle.std.specs.Prelude.{bit_or, bit_and}
use Rattle.std.proofs.Math.Nat.{mod-eq_of_lt}
use Rattle.steering.specs.Words.{digits}
use Rattle.steering.proofs.Digits.{pow-four, pow_le_16, replaced_digits}
use Rattle.steering.proofs.words.with_digit.Goals as goal

-- a number of four bits stays in the word
fits : (k d : ℕ) → k < 16 → d < 16 → d * 2 ^ (4 * k) % 18446744073709551616 ≡ d * 16 ^ k
fits k d small low =
    let within : 16 * 16 ^ k ≤ 16 ^ 16 = pow_le_16 k 16 small in
    let most : d * 16 ^ k ≤ 15 * 16 ^ k = mul-le-mul_right (16 ^ k) (omega arith) in
    ap (λ p. d * p % 18446744073709551616) (pow-four k) ∙ mod-eq_of_lt (omega arith)

pub returns : goal.returns
returns c =
    let k : ℕ = c.args.place in
    let mask : 15 * 2 ^ (4 * k) % 18446744073709551616 ≡ 15 * 16 ^ k = fits k 15 c.requires.place (omega arith) in
    let number : c.from.result * 2 ^ (4 * k) % 18446744073709551616 ≡ c.args.digit * 16 ^ k =
    ap (λ d. d * 2 ^ (4 * k) % 18446744073709551616) c.from.ensures
    ∙ fits k c.args.digit c.requires.place c.requires.digit in
    (λ i. digits 16 (bit_or (bit_and c.args.word (18446744073709551615 - mask i)) (number i)))
    ∙ replaced_digits 16 k c.args.word c.args.digit c.requires.place c.ranges.word.fits c.requires.digit
