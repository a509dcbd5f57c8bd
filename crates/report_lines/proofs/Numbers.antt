-- Numbers and bytes in hexadecimal at the front of a text: what is read is what is written.
use Rattle.std.proofs.Common.{◌≡◌, ℕ, zero, suc, ◌+◌, ◌-◌, ◌*◌, ◌^◌, ◌≤◌, ◌<◌, Bool, true, false, not, ◌&&◌, ◌||◌}
use Rattle.std.proofs.Common.{eqb, nat_le, List, [], ◌∷◌, ◌++◌, length, fold, get_or, Some}
use Rattle.std.proofs.Common.{refl, sym, ap, ◌∙◌, arith, rules}
use Rattle.std.specs.Prelude.{decimal}
use Rattle.std.specs.Fmt.{digits}
use Rattle.std.specs.List.{list_all, take_while}
use Rattle.std.proofs.lemmas.Bool.{eq-eqb, and_parts, leb-true, le-leb}
use Rattle.std.proofs.lemmas.Bool.Decides.{nat_tests}
use Rattle.std.proofs.lemmas.Option.{cond_some, some_pair_parts}
use Rattle.std.proofs.lemmas.Fmt.{digits_decimal, digits_value-decimal, first_decimal}
use Rattle.std.proofs.lemmas.Fmt.{decimal-digits_value}
use Rattle.std.proofs.lemmas.Str.Parse.{IsNumeralModel, numerals_by_fold}
use Rattle.scenario_text.specs.Words.{is_empty, is_digit, is_numeral, value_of, number_in}
use Rattle.report_lines.specs.Fronts.{past, number}
use Rattle.report_lines.proofs.Exactness.{Exact}
use Rattle.report_lines.proofs.Texts.{with_some, with_again, stops, run_again, past_again, run_whole}

own : IsNumeralModel (λ (ds : List ℕ). list_all is_digit ds ≡ true) value_of
own =
    numerals_by_fold _ (search rules) (λ (n : ℕ) (ds : List ℕ). fold (λ (m : ℕ) (c : ℕ). m * 10 + (c - 48)) n ds)
    (search rules)

-- ----- what is read is written so
numeral_is : (word : List ℕ) → is_numeral word ≡ true → value_of word < 2 ^ 64 → decimal (value_of word) ≡ word
numeral_is [] e h = absurd (cc (e))
numeral_is (c ∷ cs) e h =
    let parts : ((not (eqb c 48) || is_empty cs) ≡ true) × (list_all is_digit (c ∷ cs) ≡ true) =
    and_parts (not (eqb c 48) || is_empty cs) (list_all is_digit (c ∷ cs)) e in
    decimal-digits_value own (c ∷ cs) parts.1 (omega arith) (λ z. alone c cs z parts.0) h where
      alone : (c : ℕ) (cs : List ℕ) → c ≡ 48 → (not (eqb c 48) || is_empty cs) ≡ true → length (c ∷ cs) ≡ 1
      alone c [] z t = refl
      alone c (d ∷ ds) z t =
          let same : eqb c 48 ≡ true = eq-eqb c 48 z in absurd (cc (t, same))

number_is : (high n : ℕ) (word : List ℕ) → high < 2 ^ 64 → number_in 0 high word ≡ Some n
    → (word ≡ decimal n) × (n ≤ high)
number_is high n word small e =
    let tests : Bool = is_numeral word && nat_le 0 (value_of word) && nat_le (value_of word) high in
    let found : (tests ≡ true) × (value_of word ≡ n) = cond_some tests (value_of word) n e in
    let outer = and_parts (is_numeral word && nat_le 0 (value_of word)) (nat_le (value_of word) high) found.0 in
    let inner = and_parts (is_numeral word) (nat_le 0 (value_of word)) outer.0 in
    let within : value_of word ≤ high = leb-true (value_of word) high outer.1 in (
      sym (numeral_is word inner.0 (omega (arith, within, small))) ∙ ap decimal found.1,
      omega (arith, within, found.1),
    )

pub number_found : (high : ℕ) (text rest : List ℕ) (n : ℕ) → high < 2 ^ 64 → number high text ≡ Some (n, rest)
    → (text ≡ decimal n ++ rest) × (n ≤ high)
unfolding number
number_found high text rest n small e =
    let got = with_some (λ (m : ℕ). Some (m, past is_digit text)) (number_in 0 high (take_while is_digit text))
    (n, rest) e in
    let same : (got.0 ≡ n) × (past is_digit text ≡ rest) = some_pair_parts got.0 n (past is_digit text) rest got.2
    in
    let is = number_is high got.0 (take_while is_digit text) small got.1 in (
      run_whole is_digit text ∙ (ap (λ (w : List ℕ). w ++ past is_digit text) is.0
          ∙ (ap (λ (m : ℕ). decimal m ++ past is_digit text) same.0
          ∙ ap (λ (r : List ℕ). decimal n ++ r) same.1)),
      omega (arith, is.1, same.0),
    )

-- ----- what is written is read
pub all_digits : (n : ℕ) → n < 2 ^ 64 → list_all is_digit (decimal n) ≡ true
all_digits n h = digits_decimal own n h

numeral_by : (word : List ℕ) → 48 < get_or word 0 0 → list_all is_digit word ≡ true → is_numeral word ≡ true
numeral_by [] h e = absurd (omega (arith, h))
numeral_by (c ∷ cs) h e =
    let other : eqb c 48 ≡ false = grind (arith, nat_tests, h) in
    rw (other, e) refl

number_there : (high n : ℕ) → n ≤ high → 0 < n → n < 2 ^ 64 → number_in 0 high (decimal n) ≡ Some n
number_there high n b some small =
    let numeral : is_numeral (decimal n) ≡ true =
    numeral_by (decimal n) (first_decimal n some small) (all_digits n small) in
    let value : value_of (decimal n) ≡ n = digits_value-decimal own n small in
    let above : nat_le 0 n ≡ true = le-leb 0 n (omega arith) in
    let below : nat_le n high ≡ true = le-leb n high b in
    rw (numeral, value, above, below) refl

zero_there : (high : ℕ) → number_in 0 high (decimal 0) ≡ Some 0
unfolding digits
zero_there high = let above : nat_le 0 high ≡ true = le-leb 0 high (omega arith) in rw above refl

number_back : (high n : ℕ) → n ≤ high → high < 2 ^ 64 → number_in 0 high (decimal n) ≡ Some n
number_back high zero b h = zero_there high
number_back high (suc n) b h = number_there high (suc n) b (omega arith) (omega (arith, b, h))

pub number_again : (high n : ℕ) (rest : List ℕ) → high < 2 ^ 64 → n ≤ high → stops is_digit rest ≡ true
    → number high (decimal n ++ rest) ≡ Some (n, rest)
unfolding number
number_again high n rest small b s =
    let digits_all : list_all is_digit (decimal n) ≡ true = all_digits n (omega (arith, b, small)) in
    let run : take_while is_digit (decimal n ++ rest) ≡ decimal n = run_again is_digit (decimal n) rest digits_all
    s in
    let behind_it : past is_digit (decimal n ++ rest) ≡ rest = past_again is_digit (decimal n) rest digits_all s in
    with_again (λ (m : ℕ). Some (m, past is_digit (decimal n ++ rest)))
    (number_in 0 high (take_while is_digit (decimal n ++ rest))) n (Some (n, rest))
    (ap (number_in 0 high) run ∙ number_back high n b small) (ap (λ (r : List ℕ). Some (n, r)) behind_it)

pub number_exact : (high : ℕ) → high < 2 ^ 64 → Exact decimal (λ (n : ℕ). n ≤ high) (stops is_digit) (number high)
number_exact high small = record {
  spells = record { found = λ t n rest e. number_found high t rest n small e };
  again = λ n rest fits e. number_again high n rest small fits e;
}
