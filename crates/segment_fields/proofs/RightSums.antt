-- Checksums that make sums right.
use Rattle.std.proofs.Common.{◌≡◌, ℕ, ◌+◌, ◌*◌, ◌%◌, suc, List, [], ◌∷◌, ◌++◌, length, sum, false, refl, ap, ◌∙◌, arith}
use Rattle.std.proofs.lemmas.Bool.Decides.{nat_tests}
use Rattle.std.proofs.lemmas.List.Sums.{sum_by-append}
use Rattle.tas_num.specs.Sums.{words, checksum}
use Rattle.segment_fields.specs.Text.{is_wrong}

-- a sum with its own checksum is right
pub is_wrong_checksum : (total : ℕ) → is_wrong (total + checksum total) ≡ false
is_wrong_checksum total = grind (arith, nat_tests)

even_step : (n : ℕ) → suc (suc n) % 2 ≡ 0 → n % 2 ≡ 0
even_step n even = omega (arith, even)

words-append : (xs ys : List ℕ) → length xs % 2 ≡ 0 → words (xs ++ ys) ≡ words xs ++ words ys
words-append [] ys even = refl
words-append (a ∷ []) ys even = absurd (omega (arith, even))
words-append (a ∷ b ∷ xs) ys even =
    ap (λ (ws : List ℕ). (256 * a + b) ∷ ws) (words-append xs ys (even_step (length xs) even))

-- the words of an even number of bytes, and those of the bytes behind them
pub sum_words-append : (xs ys : List ℕ) → length xs % 2 ≡ 0 → sum (words (xs ++ ys)) ≡ sum (words xs) + sum (words ys)
sum_words-append xs ys even = ap sum (words-append xs ys even) ∙ sum_by-append (λ (x : ℕ). x) (words xs) (words ys)
