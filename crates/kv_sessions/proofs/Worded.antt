-- The words of a line, cut off one by one, and numbers as words.
use Rattle.std.proofs.Common.{◌≡◌, ℕ, suc, ◌+◌, ◌-◌, ◌*◌, ◌^◌, ◌<◌, ◌≤◌, Bool, true, false, not, cond, ◌&&◌, List, []}
use Rattle.std.proofs.Common.{◌∷◌}
use Rattle.std.proofs.Common.{length, take, drop, get_or, fold, Option, Some, None, refl, sym, ◌∙◌, ap, arith, nat_lt}
use Rattle.std.specs.Prelude.{position}
use Rattle.std.specs.List.{slice_split, onto_first, position_or_len}
use Rattle.std.proofs.lemmas.List.Splits.{slice_split_first}
use Rattle.std.proofs.lemmas.Bool.Decides.{nat_tests}
use Rattle.std.proofs.Math.Seq.{drop-cons}
use Rattle.kv_sessions.specs.Lines.{is_numeral, value_of, number_of}
use Rattle.kv_sessions.proofs.Lined.{place, no_place}

-- ----- parts
one_part_by : (p : ℕ → Bool) (xs : List ℕ) → length xs ≤ position_or_len p xs → slice_split p xs ≡ xs ∷ []
one_part_by p [] h = refl
one_part_by p (x ∷ xs) h = by_first (p x) h (one_part_by p xs)
  where
    by_first : (b : Bool) → suc (length xs) ≤ cond (not b) (1 + position_or_len p xs) 0
        → (length xs ≤ position_or_len p xs → slice_split p xs ≡ xs ∷ [])
        → cond b ([] ∷ slice_split p xs) (onto_first x (slice_split p xs)) ≡ (x ∷ xs) ∷ []
    by_first true i r = absurd (omega (arith, i))
    by_first false i r = ap (onto_first x) (r (omega (arith, i)))

pub one_part : (p : ℕ → Bool) (xs : List ℕ) → position p xs ≡ None → slice_split p xs ≡ xs ∷ []
one_part p xs h = one_part_by p xs (no_place p xs h)

pub parts_at : (p : ℕ → Bool) (xs : List ℕ) (at : ℕ) → position p xs ≡ Some at
    → slice_split p xs ≡ take at xs ∷ slice_split p (drop (at + 1) xs)
parts_at p xs at h =
    let here = place p xs at h in
    let whole = slice_split_first p xs 0 here.1 in
    rw (here.0) at whole

-- ----- numbers
abbrev step : ℕ → ℕ → ℕ
step n c = n * 10 + (c - 48)

value_grows : (v : ℕ) (word : List ℕ) → v ≤ fold step v word
value_grows v [] = omega arith
value_grows v (c ∷ cs) = let h : step v c ≤ fold step (step v c) cs = value_grows (step v c) cs in omega (arith, h)

none_by : (a b : Bool) (n : ℕ) → b ≡ false → ◌≡◌ {A = Option ℕ} None (cond (a && b) (Some n) None)
none_by true b n h = rw h refl
none_by false b n h = refl

-- a front whose value is too high makes the word too high
pub too_high : (v i r : ℕ) (word : List ℕ) → i < length word
    → fold (λ (n : ℕ) (c : ℕ). n * 10 + (c - 48)) v (drop i word) ≡ value_of word → r ≡ get_or word i 0 - 48
    → 2 ^ 32 ≤ v * 10 + r
    → None ≡ number_of word
too_high v i r word h e is above =
    let here : drop i word ≡ get_or word i 0 ∷ drop (suc i) word = drop-cons word i 0 h in
    let next : fold step (step v (get_or word i 0)) (drop (suc i) word)
    ≡ value_of word = sym (ap (fold step v) here) ∙ e in
    let grown : step v (get_or word i 0) ≤ fold step (step v (get_or word i 0)) (drop (suc i) word) =
    value_grows (step v (get_or word i 0)) (drop (suc i) word) in
    let past : nat_lt (value_of word) (2 ^ 32) ≡ false =
    (let i : 2 ^ 32 ≤ value_of word = omega (arith, grown, next, is, above) in grind (arith, nat_tests, i)) in
    none_by (is_numeral word) (nat_lt (value_of word) (2 ^ 32)) (value_of word) past
