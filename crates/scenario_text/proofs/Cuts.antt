-- Texts that are cut at a byte, and what is read of a word.
use Rattle.std.proofs.Common.{◌≡◌, ℕ, zero, suc, ◌<◌, ◌≤◌, ◌+◌, ◌-◌, ◌*◌, Bool, true, false, not, ◌&&◌, cond, eqb, ltb}
use Rattle.std.proofs.Common.{leb, List, [], ◌∷◌, ◌++◌, length, take, drop, get_or, fold, Option, Some, None, refl, sym}
use Rattle.std.proofs.Common.{◌∙◌, ap, subst, arith}
use Rattle.std.specs.List.{slice_split, onto_first, position_or_len, position, before_first, after_first}
use Rattle.std.proofs.lemmas.List.Splits.{slice_split_first, slice_split-cons_no}
use Rattle.std.proofs.Math.Seq.{drop-cons}
use Rattle.std.proofs.lemmas.Bool.Decides.{nat_tests}
use Rattle.scenario_text.specs.Words.{address_in, value_of, is_numeral, number_in}

-- where no byte passes, the text is the one part
no_part : (p : ℕ → Bool) (xs : List ℕ) → ltb (position_or_len p xs) (length xs) ≡ false → slice_split p xs ≡ xs ∷ []
no_part p [] h = refl
no_part p (x ∷ xs) h = by_first (p x) h (no_part p xs)
  where
    by_first : (b : Bool) → ltb (cond (not b) (1 + position_or_len p xs) 0) (suc (length xs)) ≡ false
        → (ltb (position_or_len p xs) (length xs) ≡ false → slice_split p xs ≡ xs ∷ [])
        → cond b ([] ∷ slice_split p xs) (onto_first x (slice_split p xs)) ≡ (x ∷ xs) ∷ []
    by_first true i r = absurd (grind (arith, nat_tests))
    by_first false i r =
        let later : ltb (position_or_len p xs) (length xs) ≡ false = grind (arith, nat_tests) in
        ap (onto_first x) (r later)

-- the parts at a place, or none
abbrev pub PartsBy : (p : ℕ → Bool) (xs : List ℕ) → Option ℕ → Type 0
PartsBy p xs None = slice_split p xs ≡ xs ∷ []
PartsBy p xs (Some at) = (at < length xs) × (slice_split p xs ≡ take at xs ∷ slice_split p (drop (at + 1) xs))

by_place : (p : ℕ → Bool) (xs : List ℕ) (b : Bool) → ltb (position_or_len p xs) (length xs) ≡ b → (r : Option ℕ)
    → r ≡ cond b (Some (position_or_len p xs)) None → PartsBy p xs r
by_place p xs true h (Some at) e = let same : at ≡ position_or_len p xs = cc (e) in
    let below : position_or_len p xs < length xs = grind (arith, nat_tests) in
    (omega arith, rw same (slice_split_first p xs 0 below))
by_place p xs true h None e = absurd (cc (e))
by_place p xs false h (Some at) e = absurd (cc (e))
by_place p xs false h None e = no_part p xs h

pub parts_by : (p : ℕ → Bool) (xs : List ℕ) (r : Option ℕ) → r ≡ position p xs → PartsBy p xs r
parts_by p xs r e = by_place p xs (ltb (position_or_len p xs) (length xs)) refl r e

-- a text has a part
pub more_parts : (p : ℕ → Bool) (xs : List ℕ) (P : List (List ℕ) → Type 0)
    → ((y : List ℕ) (ys : List (List ℕ)) → P (y ∷ ys)) → P (slice_split p xs)
more_parts p [] P h = h [] []
more_parts p (x ∷ xs) P h = by_first (p x) (slice_split p xs)
  where
    by_first : (b : Bool) (zs : List (List ℕ)) → P (cond b ([] ∷ zs) (onto_first x zs))
    by_first true zs = h [] zs
    by_first false [] = h (x ∷ []) []
    by_first false (z ∷ zs) = h (x ∷ z) zs

-- five parts are no address
pub five_parts : (p : ℕ → Bool) (a b c d xs : List ℕ) → address_in (a ∷ b ∷ c ∷ d ∷ slice_split p xs) ≡ None
five_parts p a b c d xs = more_parts p xs (λ zs. address_in (a ∷ b ∷ c ∷ d ∷ zs) ≡ None) (λ y ys. refl)

-- ----- numbers
abbrev step : ℕ → ℕ → ℕ
step n c = n * 10 + (c - 48)

value_grows : (v : ℕ) (word : List ℕ) → v ≤ fold step v word
value_grows v [] = omega arith
value_grows v (c ∷ cs) = let h : step v c ≤ fold step (step v c) cs = value_grows (step v c) cs in omega (arith, h)

-- a front whose value is too high makes the word too high
pub too_high : (low high v : ℕ) (word rest : List ℕ) → high < v → fold step v rest ≡ value_of word
    → None ≡ number_in low high word
too_high low high v word rest h e =
    let above : v ≤ fold step v rest = value_grows v rest in
    let past : leb (value_of word) high ≡ false =
    (let i : high < value_of word = subst (λ (n : ℕ). high < n) e (omega arith) in grind (arith, nat_tests)) in
    by_tests (is_numeral word) (leb low (value_of word)) (leb (value_of word) high) past
  where
    by_tests : (a b c : Bool) → c ≡ false → None ≡ cond (a && b && c) (Some (value_of word)) None
    by_tests a b true i = absurd (cc (i))
    by_tests true true false i = refl
    by_tests true false false i = refl
    by_tests false true false i = refl
    by_tests false false false i = refl

-- the same in a loop: one digit more
pub too_high_next : (low high v i r : ℕ) (word : List ℕ) → i < length word
    → fold (λ (n : ℕ) (c : ℕ). n * 10 + (c - 48)) v (drop i word) ≡ value_of word → r ≡ get_or word i 0 - 48
    → high < v * 10 + r
    → None ≡ number_in low high word
too_high_next low high v i r word h e is above =
    let here : drop i word ≡ get_or word i 0 ∷ drop (suc i) word = drop-cons word i 0 h in
    let next : fold step (step v (get_or word i 0)) (drop (suc i) word) ≡ value_of word = sym (ap (fold step v) here)
    ∙ e in
    too_high low high (step v (get_or word i 0)) word (drop (suc i) word)
    (subst (λ (n : ℕ). high < v * 10 + n) is above) next

-- ----- addresses
pub no_address : (p : ℕ → Bool) (word a b c d rest_a rest_b rest_c rest_d : List ℕ)
    → slice_split p word ≡ a ∷ slice_split p rest_a → slice_split p rest_a ≡ b ∷ slice_split p rest_b
    → slice_split p rest_b ≡ c ∷ slice_split p rest_c → slice_split p rest_c ≡ d ∷ slice_split p rest_d
    → None ≡ address_in (slice_split p word)
no_address p word a b c d rest_a rest_b rest_c rest_d ea eb ec ed =
    let all : slice_split p word ≡ a ∷ b ∷ c ∷ d ∷ slice_split p rest_d = ea
    ∙ ap (λ zs. a ∷ zs) (eb ∙ ap (λ zs. b ∷ zs) (ec ∙ ap (λ zs. c ∷ zs) ed)) in
    sym (ap address_in all ∙ five_parts p a b c d rest_d)
