-- Decimal numbers as words of lines.
use Rattle.std.proofs.Common.{◌≡◌, ℕ, suc, ◌+◌, ◌-◌, ◌*◌, ◌^◌, ◌==◌, ◌≤◌, ◌<◌, Bool, true, false, ◌||◌}
use Rattle.std.proofs.Common.{nat_le, List, [], ◌∷◌, length, fold, get_or, Some, refl, arith, rules}
use Rattle.std.specs.Prelude.{decimal}
use Rattle.std.specs.List.{list_all}
use Rattle.std.proofs.lemmas.Bool.Decides.{nat_tests}
use Rattle.std.proofs.lemmas.Fmt.{digits_decimal, digits_value-decimal, decimal_nonempty, first_decimal}
use Rattle.std.proofs.lemmas.Fmt.{length-decimal-le}
use Rattle.std.proofs.lemmas.Str.Parse.{IsNumeralModel, numerals_by_fold}
use Rattle.scenario_text.specs.Words.{is_empty, is_digit, is_numeral, value_of, number_in, is_letter, is_name}
use Rattle.scenario_text.proofs.WordedLines.{is_visible, is_word, both}

own : IsNumeralModel (λ (ds : List ℕ). list_all is_digit ds ≡ true) value_of
own =
    numerals_by_fold _ (search rules) (λ (n : ℕ) (ds : List ℕ). fold (λ (m : ℕ) (c : ℕ). m * 10 + (c - 48)) n ds)
    (search rules)

-- ----- the number that is written
pub all_digits : (n : ℕ) → n < 2 ^ 64 → list_all is_digit (decimal n) ≡ true
all_digits n h = digits_decimal own n h

numeral_by : (word : List ℕ) → 48 < get_or word 0 0 → list_all is_digit word ≡ true → is_numeral word ≡ true
numeral_by [] h e = absurd (omega (arith, h))
numeral_by (c ∷ cs) h e =
    let other : (c == 48) ≡ false = grind (arith, nat_tests, h) in
    rw (other, e) refl

pub number_there : (low high n : ℕ) → low ≤ n → n ≤ high → 0 < n → n < 2 ^ 64 → number_in low high (decimal n) ≡ Some n
number_there low high n a b some small =
    let numeral : is_numeral (decimal n) ≡ true =
    numeral_by (decimal n) (first_decimal n some small) (all_digits n small) in
    let value : value_of (decimal n) ≡ n = digits_value-decimal own n small in
    let above : nat_le low n ≡ true = grind (arith, nat_tests, a) in
    let below : nat_le n high ≡ true = grind (arith, nat_tests, b) in
    rw (numeral, value, above, below) refl

-- ----- words and names
digits_are_visible : (ds : List ℕ) → list_all is_digit ds ≡ true → list_all is_visible ds ≡ true
digits_are_visible [] e = refl
digits_are_visible (c ∷ cs) e =
    let parts : (is_digit c ≡ true) × (list_all is_digit cs ≡ true) = both _ _ e in
    let here : is_visible c ≡ true = grind (arith, nat_tests, parts.0) in
    rw (here, digits_are_visible cs parts.1) refl

some_digits : (ds : List ℕ) → 0 < length ds → is_empty ds ≡ false
some_digits [] h = absurd (omega (arith, h))
some_digits (c ∷ cs) h = refl

pub number_is_word : (n : ℕ) → n < 2 ^ 64 → is_word (decimal n) ≡ true
number_is_word n h =
    rw (some_digits (decimal n) (decimal_nonempty n h), digits_are_visible (decimal n) (all_digits n h)) refl

pub numbered_is_word : (letter n : ℕ) → is_visible letter ≡ true → n < 2 ^ 64 → is_word (letter ∷ decimal n) ≡ true
numbered_is_word letter n e h = rw (e, digits_are_visible (decimal n) (all_digits n h)) refl

digits_are_of_names : (ds : List ℕ) → list_all is_digit ds ≡ true
    → list_all (λ (c : ℕ). is_letter c || is_digit c) ds ≡ true
digits_are_of_names [] e = refl
digits_are_of_names (c ∷ cs) e =
    let parts : (is_digit c ≡ true) × (list_all is_digit cs ≡ true) = both _ _ e in
    let here : (is_letter c || is_digit c) ≡ true = either (is_letter c) (is_digit c) parts.0 in
    rw (here, digits_are_of_names cs parts.1) refl where
      either : (a b : Bool) → b ≡ true → (a || b) ≡ true
      either true b e = refl
      either false b e = e

pub numbered_is_name : (letter n : ℕ) → is_letter letter ≡ true → n < 1000 → is_name (letter ∷ decimal n) ≡ true
numbered_is_name letter n e h =
    let small : n < 2 ^ 64 = omega (arith, h) in
    let short : length (decimal n) ≤ 3 = length-decimal-le 3 n (omega arith) (omega (arith, h)) small in
    let within : nat_le (suc (length (decimal n))) 16 ≡ true = grind (arith, nat_tests, short) in
    rw (e, within, digits_are_of_names (decimal n) (all_digits n small)) refl
