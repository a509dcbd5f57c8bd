-- Bytes in hexadecimal: what is read is what is written.
use Rattle.std.proofs.Common.{◌≡◌, ℕ, ◌+◌, ◌*◌, ◌/◌, ◌%◌, ◌<◌, true, false, not}
use Rattle.std.proofs.Common.{eqb, List, [], ◌∷◌, ◌++◌, length, Some, refl, sym, ap, subst, ◌∙◌, arith}
use Rattle.std.specs.Prelude.{codes}
use Rattle.std.specs.Fmt.{digit_glyph}
use Rattle.std.specs.List.{list_all, take_while}
use Rattle.std.proofs.lemmas.Bool.{eqb-true, eq-eqb, and_parts}
use Rattle.std.proofs.lemmas.Bool.Decides.{nat_tests}
use Rattle.std.proofs.lemmas.Option.{cond_some, some_pair_parts}
use Rattle.tas_runs.specs.Report as report
use Rattle.scenario_text.specs.Words.{is_empty}
use Rattle.report_lines.specs.Fronts.{with, behind, word, past, is_hex, hex_value, bytes_in, are_pairs, some_hex}
use Rattle.report_lines.specs.Fronts.{hex_bytes}
use Rattle.report_lines.specs.Shown.{AreBytes}
use Rattle.report_lines.proofs.Texts.{stops, run_again, past_again, run_whole, run_passes}
use Rattle.report_lines.proofs.Exactness.{Spells, Exact, word_spells, word_again, one_of_spells, one_of_again}
use Rattle.report_lines.proofs.Exactness.{fail_before}

-- ----- a digit
pub glyph_value : (n : ℕ) → n < 16 → hex_value (digit_glyph false n) ≡ n
glyph_value n h = grind (arith, nat_tests, h)

glyph_is_hex : (n : ℕ) → n < 16 → is_hex (digit_glyph false n) ≡ true
glyph_is_hex n h = grind (arith, nat_tests, h)

value_glyph : (c : ℕ) → is_hex c ≡ true → digit_glyph false (hex_value c) ≡ c
value_glyph c e = grind (arith, nat_tests, e)

value_small : (c : ℕ) → hex_value c < 16
value_small c = grind (arith, nat_tests)

-- ----- bytes
bytes_back : (bytes : List ℕ) → AreBytes bytes → bytes_in (report.hex_bytes bytes) ≡ bytes
bytes_back [] h = refl
bytes_back (b ∷ bs) h =
    let high : hex_value (digit_glyph false (b / 16)) ≡ b / 16 = glyph_value (b / 16) (omega (arith, h.0)) in
    let low : hex_value (digit_glyph false (b % 16)) ≡ b % 16 = glyph_value (b % 16) (omega arith) in
    let whole : b / 16 * 16 + b % 16 ≡ b = omega arith in
    rw (high, low, whole, bytes_back bs h.1) refl

all_hex : (bytes : List ℕ) → AreBytes bytes → list_all is_hex (report.hex_bytes bytes) ≡ true
all_hex [] h = refl
all_hex (b ∷ bs) h =
    let high : is_hex (digit_glyph false (b / 16)) ≡ true = glyph_is_hex (b / 16) (omega (arith, h.0)) in
    let low : is_hex (digit_glyph false (b % 16)) ≡ true = glyph_is_hex (b % 16) (omega arith) in
    rw (high, low, all_hex bs h.1) refl

two_each : (bytes : List ℕ) → length (report.hex_bytes bytes) ≡ 2 * length bytes
two_each [] = refl
two_each (b ∷ bs) = let more : length (report.hex_bytes bs) ≡ 2 * length bs = two_each bs in omega (arith, more)

digits_back : (digits : List ℕ) → list_all is_hex digits ≡ true → length digits % 2 ≡ 0
    → report.hex_bytes (bytes_in digits) ≡ digits
digits_back [] all even = refl
digits_back (a ∷ []) all even = absurd (omega (arith, even))
digits_back (a ∷ b ∷ ds) all even =
    let first = and_parts (is_hex a) (list_all is_hex (b ∷ ds)) all in
    let second = and_parts (is_hex b) (list_all is_hex ds) first.1 in
    let small_a : hex_value a < 16 = value_small a in
    let small_b : hex_value b < 16 = value_small b in
    let high : (hex_value a * 16 + hex_value b) / 16 ≡ hex_value a = omega (arith, small_a, small_b) in
    let low : (hex_value a * 16 + hex_value b) % 16 ≡ hex_value b = omega (arith, small_a, small_b) in
    let rest : length ds % 2 ≡ 0 = omega (arith, even) in
    rw (high, low, value_glyph a first.0, value_glyph b second.0, digits_back ds second.1 rest) refl

bytes_small : (digits : List ℕ) → AreBytes (bytes_in digits)
bytes_small [] = tt
bytes_small (a ∷ []) = tt
bytes_small (a ∷ b ∷ ds) =
    let small_a : hex_value a < 16 = value_small a in
    let small_b : hex_value b < 16 = value_small b in
    (omega (arith, small_a, small_b), bytes_small ds)

-- ----- some bytes
pub record SomeBytes (bytes : List ℕ) : Type 0 where
  pub some : is_empty bytes ≡ false
  pub small : AreBytes bytes

some_pairs : (digits : List ℕ) → not (is_empty digits) ≡ true → length digits % 2 ≡ 0
    → is_empty (bytes_in digits) ≡ false
some_pairs [] e even = absurd (cc (e))
some_pairs (a ∷ []) e even = absurd (omega (arith, even))
some_pairs (a ∷ b ∷ ds) e even = refl

some_digits : (bytes : List ℕ) → is_empty bytes ≡ false → not (is_empty (report.hex_bytes bytes)) ≡ true
some_digits [] e = absurd (cc (e))
some_digits (b ∷ bs) e = refl

some_hex_found : (t bytes rest : List ℕ) → some_hex t ≡ Some (bytes, rest)
    → (t ≡ report.hex_bytes bytes ++ rest) × SomeBytes bytes
unfolding some_hex
some_hex_found t bytes rest e =
    let digits : List ℕ = take_while is_hex t in
    let got = cond_some (are_pairs digits) (bytes_in digits, past is_hex t) (bytes, rest) e in
    let parts : (bytes_in digits ≡ bytes) × (past is_hex t ≡ rest) =
    some_pair_parts (bytes_in digits) bytes (past is_hex t) rest (ap (λ (p : List ℕ × List ℕ). Some p) got.1) in
    let tests = and_parts (not (is_empty digits)) (eqb (length digits % 2) 0) got.0 in
    let even : length digits % 2 ≡ 0 = eqb-true (length digits % 2) 0 tests.1 in
    let same : report.hex_bytes (bytes_in digits) ≡ digits = digits_back digits (run_passes is_hex t) even in
    let whole : t ≡ report.hex_bytes (bytes_in digits) ++ past is_hex t =
    run_whole is_hex t ∙ ap (λ (w : List ℕ). w ++ past is_hex t) (sym same) in (
      whole ∙ (ap (λ (b : List ℕ). report.hex_bytes b ++ past is_hex t) parts.0
          ∙ ap (λ (r : List ℕ). report.hex_bytes bytes ++ r) parts.1),
      subst SomeBytes parts.0
          (record { some = some_pairs digits tests.0 even; small = bytes_small digits }),
    )

some_hex_again : (bytes rest : List ℕ) → SomeBytes bytes → stops is_hex rest ≡ true
    → some_hex (report.hex_bytes bytes ++ rest) ≡ Some (bytes, rest)
unfolding some_hex
some_hex_again bytes rest h s =
    let digits : List ℕ = report.hex_bytes bytes in
    let all : list_all is_hex (report.hex_bytes bytes) ≡ true = all_hex bytes h.small in
    let run : take_while is_hex (report.hex_bytes bytes ++ rest) ≡ report.hex_bytes bytes =
    run_again is_hex (report.hex_bytes bytes) rest all s in
    let behind_it : past is_hex (report.hex_bytes bytes ++ rest) ≡ rest =
    past_again is_hex (report.hex_bytes bytes) rest all s in
    let long : length (report.hex_bytes bytes) ≡ 2 * length bytes = two_each bytes in
    let even : eqb (length (report.hex_bytes bytes) % 2) 0 ≡ true = eq-eqb _ 0 (omega (arith, long)) in
    rw (run, behind_it, some_digits bytes h.some, even, bytes_back bytes h.small) refl

pub some_hex_exact : Exact report.hex_bytes SomeBytes (stops is_hex) some_hex
some_hex_exact = record {
  spells = record { found = some_hex_found };
  again = some_hex_again;
}

-- ----- bytes, or `-` for none
hex_spells : Spells report.hex AreBytes hex_bytes
unfolding hex_bytes
hex_spells = one_of_spells report.hex AreBytes (word (codes "-") [] ∷ some_hex ∷ [])
    (word_spells report.hex AreBytes (codes "-") [] refl tt, (record { found = found }, tt)) where
      by_bytes : (t bytes rest : List ℕ) → SomeBytes bytes → t ≡ report.hex_bytes bytes ++ rest
          → (t ≡ report.hex bytes ++ rest) × AreBytes bytes
      by_bytes t [] rest s e = absurd (cc (s.some))
      by_bytes t (b ∷ bs) rest s e = (e, s.small)

      found : (t bytes rest : List ℕ) → some_hex t ≡ Some (bytes, rest)
          → (t ≡ report.hex bytes ++ rest) × AreBytes bytes
      found t bytes rest e = let is = some_hex_found t bytes rest e in by_bytes t bytes rest is.1 is.0

apart : (n : ℕ) → n < 16 → eqb (digit_glyph false n) 45 ≡ false
apart n h = grind (arith, nat_tests, h)

hex_again : (bytes rest : List ℕ) → AreBytes bytes → stops is_hex rest ≡ true
    → hex_bytes (report.hex bytes ++ rest) ≡ Some (bytes, rest)
unfolding hex_bytes with behind
hex_again [] rest h s =
    one_of_again 0 (word (codes "-") [] ∷ some_hex ∷ []) (codes "-" ++ rest) ([], rest) refl
    (word_again (codes "-") [] rest)
hex_again (b ∷ bs) rest h s =
    one_of_again 1 (word (codes "-") [] ∷ some_hex ∷ []) (report.hex_bytes (b ∷ bs) ++ rest) (b ∷ bs, rest)
    (no_dash b bs rest h.0)
    (some_hex_again (b ∷ bs) rest (record { some = refl; small = h }) s) where
      no_dash : (b : ℕ) (bs rest : List ℕ) → b < 256
          → fail_before 1 (word (codes "-") [] ∷ some_hex ∷ []) (report.hex_bytes (b ∷ bs) ++ rest) ≡ true
      no_dash b bs rest small =
          let other : eqb (digit_glyph false (b / 16)) 45 ≡ false = apart (b / 16) (omega (arith, small)) in
          rw (behind, other) refl

pub hex_exact : Exact report.hex AreBytes (stops is_hex) hex_bytes
hex_exact = record { spells = hex_spells; again = hex_again }
