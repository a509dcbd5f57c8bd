-- Numbers in their ranges, and texts no longer than what they stand in.
use Rattle.std.proofs.Common.{◌≡◌, ◌≤◌, ℕ, ◌==◌, ◌&&◌, nat_le, Bool, true, false, List, [], ◌∷◌, length, drop}
use Rattle.std.proofs.Common.{Option, Some, None, IfSome, arith}
use Rattle.std.proofs.lemmas.Bool.Decides.{nat_tests}
use Rattle.std.proofs.lemmas.List.{length-drop}
use Rattle.tas_model.proofs.Tests.{on_cond}
use Rattle.scenario_text.specs.Words.{is_numeral, value_of, number_in, is_empty, without_spaces, behind_word, text_of}
use Rattle.scenario_ranges.specs.Ranges.{IsFrom}

-- a word that is taken as a number is one of its range
pub number_from : (low high : ℕ) (word : List ℕ) → IfSome (number_in low high word) (IsFrom low high)
number_from low high word =
    on_cond (λ (o : Option ℕ). IfSome o (IsFrom low high))
    (is_numeral word && nat_le low (value_of word) && nat_le (value_of word) high) (Some (value_of word)) None
    (λ t. by_tests (is_numeral word) low high (value_of word) t) (λ f. tt) where
      by_tests : (numeral : Bool) (low high n : ℕ) → (numeral && nat_le low n && nat_le n high) ≡ true
          → IsFrom low high n
      by_tests numeral low high n t = (grind (arith, nat_tests, t), grind (arith, nat_tests, t))

-- ----- the text of `send`
pub without_spaces_shorter : (text : List ℕ) → length (without_spaces text) ≤ length text
without_spaces_shorter [] = omega arith
without_spaces_shorter (c ∷ cs) = by_test (c == 32) (without_spaces_shorter cs) where
  by_test : (b : Bool) → length (without_spaces cs) ≤ length cs
      → length (elim b as (λ z. List ℕ) [ true ↦ without_spaces cs | false ↦ c ∷ cs ]) ≤ length (c ∷ cs)
  by_test true h = omega (arith, h)
  by_test false h = omega arith

pub behind_word_shorter : (text : List ℕ) → length (behind_word text) ≤ length text
behind_word_shorter [] = omega arith
behind_word_shorter (c ∷ cs) = by_test (c == 32) (behind_word_shorter cs) where
  by_test : (b : Bool) → length (behind_word cs) ≤ length cs
      → length (elim b as (λ z. List ℕ) [ true ↦ c ∷ cs | false ↦ behind_word cs ]) ≤ length (c ∷ cs)
  by_test true h = omega arith
  by_test false h = omega (arith, h)

-- it is no longer than its line
pub text_shorter : (line : List ℕ) → length (text_of line) ≤ length line
text_shorter line =
    let first : List ℕ = without_spaces line in
    let behind : List ℕ = behind_word first in
    let second : List ℕ = without_spaces behind in
    let rest : List ℕ = behind_word second in
    let cut : length (drop 1 rest) ≤ length rest = grind (arith, length-drop 1 rest) in
    let d : length rest ≤ length second = behind_word_shorter second in
    let c : length second ≤ length behind = without_spaces_shorter behind in
    let b : length behind ≤ length first = behind_word_shorter first in
    let a : length first ≤ length line = without_spaces_shorter line in
    omega (arith, cut, d, c, b, a)

pub some_bytes : (text : List ℕ) → is_empty text ≡ false → 1 ≤ length text
some_bytes [] e = absurd (cc (e))
some_bytes (c ∷ cs) e = omega arith
