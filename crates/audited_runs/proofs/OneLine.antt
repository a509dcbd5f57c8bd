-- Texts without LF: what they are made of, and that a text of lines is cut into these lines.
use Rattle.std.proofs.Common.{◌≡◌, ℕ, ◌-◌, ◌*◌, ◌+◌, ◌<◌, ◌^◌, Bool, true, false, not, ◌&&◌, cond, eqb}
use Rattle.std.proofs.Common.{List, [], ◌∷◌}
use Rattle.std.proofs.Common.{◌++◌, fold, nat_le, refl, ap, arith, rules}
use Rattle.std.proofs.lemmas.Bool.{and_parts}
use Rattle.std.proofs.lemmas.Bool.Decides.{nat_tests}
use Rattle.std.proofs.lemmas.Fmt.{digits_decimal}
use Rattle.std.proofs.lemmas.Str.Parse.{IsNumeralModel, numerals_by_fold}
use Rattle.std.specs.Prelude.{decimal}
use Rattle.std.specs.List.{list_all}
use Rattle.trace_audit.specs.TextLines.{text_lines, onto}

-- a byte other than LF
abbrev pub is_inner : ℕ → Bool
is_inner c = not (eqb c 10)

abbrev pub lacks : List ℕ → Bool
lacks text = list_all is_inner text

-- The text has no LF.
pub record IsOneLine (text : List ℕ) : Type 0 where
  pub lacks : lacks text ≡ true

pub word : (text : List ℕ) → lacks text ≡ true → IsOneLine text
word text e = record { lacks = e }

joined : (a b : List ℕ) → lacks a ≡ true → lacks b ≡ true → lacks (a ++ b) ≡ true
joined [] b one other = other
joined (c ∷ cs) b one other =
    let parts : (is_inner c ≡ true) × (lacks cs ≡ true) = and_parts (is_inner c) (lacks cs) one in
    rw (parts.0, joined cs b parts.1 other) refl

-- one behind the other
infixl 60 ◌◂◌
pub ◌◂◌ : {a b : List ℕ} → IsOneLine a → IsOneLine b → IsOneLine (a ++ b)
◌◂◌ {a} {b} one other = record { lacks = joined a b one.lacks other.lacks }

-- ----- digits
abbrev is_digit : ℕ → Bool
is_digit c = nat_le 48 c && nat_le c 57

own : IsNumeralModel (λ (ds : List ℕ). list_all is_digit ds ≡ true)
    (λ (ds : List ℕ). fold (λ (m : ℕ) (c : ℕ). m * 10 + (c - 48)) 0 ds)
own =
    numerals_by_fold _ (search rules) (λ (n : ℕ) (ds : List ℕ). fold (λ (m : ℕ) (c : ℕ). m * 10 + (c - 48)) n ds)
    (search rules)

digit_inner : (c : ℕ) → is_digit c ≡ true → is_inner c ≡ true
digit_inner c e = grind (arith, nat_tests, e)

digits_lack : (ds : List ℕ) → list_all is_digit ds ≡ true → lacks ds ≡ true
digits_lack [] e = refl
digits_lack (c ∷ cs) e =
    let parts : (is_digit c ≡ true) × (list_all is_digit cs ≡ true) = and_parts (is_digit c) (list_all is_digit cs) e in
    rw (digit_inner c parts.0, digits_lack cs parts.1) refl

pub number : (n : ℕ) → n < 2 ^ 64 → IsOneLine (decimal n)
number n h = record { lacks = digits_lack (decimal n) (digits_decimal own n h) }

-- ----- the lines of a text
pub cut_line : (w rest : List ℕ) → lacks w ≡ true
    → text_lines ((w ++ 10 ∷ []) ++ rest) ≡ (w ++ 10 ∷ []) ∷ text_lines rest
cut_line [] rest e = refl
cut_line (c ∷ cs) rest e =
    let parts : (is_inner c ≡ true) × (lacks cs ≡ true) = and_parts (is_inner c) (lacks cs) e in
    by_first (eqb c 10) parts.0 (cut_line cs rest parts.1) where
      by_first : (b : Bool) → not b ≡ true → text_lines ((cs ++ 10 ∷ []) ++ rest) ≡ (cs ++ 10 ∷ []) ∷ text_lines rest
          → ◌≡◌ {A = List (List ℕ)}
          (cond b ((c ∷ []) ∷ text_lines ((cs ++ 10 ∷ []) ++ rest)) (onto c (text_lines ((cs ++ 10 ∷ []) ++ rest))))
          ((c ∷ cs ++ 10 ∷ []) ∷ text_lines rest)
      by_first true h more = absurd (cc (h))
      by_first false h more = ap (onto c) more
