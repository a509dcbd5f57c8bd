-- Scripts in the order of their numbers: each is found by its own.
use Rattle.std.proofs.Common.{◌≡◌, ◌<◌, ◌==◌, ℕ, Bool, true, false, List, [], ◌∷◌, ◌++◌, Some}
use Rattle.std.proofs.Common.{refl, sym, ap, subst, ◌∙◌, arith, append_assoc}
use Rattle.std.specs.List.{find}
use Rattle.std.proofs.lemmas.Bool.Decides.{nat_tests}
use Rattle.host_rounds.specs.Lists.{Each, change_first}
use Rattle.scenario_runs.specs.Applications.{Script}
use Rattle.scenario_host.specs.Sound.{AreRising}
use Rattle.shared_scripts.specs.Begun.{has_number}
use Rattle.shared_scripts.specs.Turns.{numbers_in}

-- ----- facts of each
pub each_more : {X : Type 0} (P Q : X → Type 0) → ((x : X) → P x → Q x) → (xs : List X) → Each P xs → Each Q xs
each_more P Q more [] each = tt
each_more P Q more (x ∷ xs) each = (more x each.0, each_more P Q more xs each.1)

pub each_back : {X : Type 0} (P : X → Type 0) (xs ys : List X) → Each P (xs ++ ys) → Each P ys
each_back P [] ys each = each
each_back P (x ∷ xs) ys each = each_back P xs ys each.1

-- ----- numbers
pub same_number : (a b : ℕ) → a ≡ b → (a == b) ≡ true
same_number a b same = grind (arith, nat_tests, same)

pub apart_number : (a b : ℕ) → a < b → (a == b) ≡ false
apart_number a b below = grind (arith, nat_tests, below)

pub above_number : (a b : ℕ) → b < a → (a == b) ≡ false
above_number a b below = grind (arith, nat_tests, below)

pub is_number : (a b : ℕ) → (a == b) ≡ true → a ≡ b
is_number a b same = grind (arith, nat_tests, same)

pub not_number : (a b : ℕ) → (a == b) ≡ false → a ≡ b → ⊥
not_number a b apart same = absurd (cc (apart, same_number a b same))

pub other_number : (a b : ℕ) → (a ≡ b → ⊥) → (a == b) ≡ false
other_number a b other = by (a == b) refl where
  by : (t : Bool) → (a == b) ≡ t → (a == b) ≡ false
  by true e = absurd (other (is_number a b e))
  by false e = e

-- ----- rising
abbrev pub IsBelow : (number : ℕ) → Script → Type 0
IsBelow n later = n < later.number

below_by : (n : ℕ) (xs ys : List Script) → numbers_in xs ≡ numbers_in ys → Each (IsBelow n) xs → Each (IsBelow n) ys
below_by n [] [] same each = tt
below_by n [] (y ∷ ys) same each = absurd (cc (same))
below_by n (x ∷ xs) [] same each = absurd (cc (same))
below_by n (x ∷ xs) (y ∷ ys) same each =
    let first : x.number ≡ y.number = cc (same) in
    let rest : numbers_in xs ≡ numbers_in ys = cc (same) in
    (subst (λ (k : ℕ). n < k) first each.0, below_by n xs ys rest each.1)

pub rising_by : (xs ys : List Script) → numbers_in xs ≡ numbers_in ys → AreRising xs → AreRising ys
rising_by [] [] same rising = tt
rising_by [] (y ∷ ys) same rising = absurd (cc (same))
rising_by (x ∷ xs) [] same rising = absurd (cc (same))
rising_by (x ∷ xs) (y ∷ ys) same rising =
    let first : x.number ≡ y.number = cc (same) in
    let rest : numbers_in xs ≡ numbers_in ys = cc (same) in (
      subst (λ (k : ℕ). Each (IsBelow k) ys) first (below_by x.number xs ys rest rising.0),
      rising_by xs ys rest rising.1,
    )

pub numbers_append : (xs ys : List Script) → numbers_in (xs ++ ys) ≡ numbers_in xs ++ numbers_in ys
numbers_append [] ys = refl
numbers_append (x ∷ xs) ys = ap (λ ns. x.number ∷ ns) (numbers_append xs ys)

-- one of them with another script of its number
pub rising_with : (front : List Script) (x y : Script) (xs : List Script) → y.number ≡ x.number
    → AreRising (front ++ x ∷ xs) → AreRising (front ++ y ∷ xs)
rising_with front x y xs same rising =
    rising_by (front ++ x ∷ xs) (front ++ y ∷ xs)
    (numbers_append front (x ∷ xs)
    ∙ (ap (λ n. numbers_in front ++ n ∷ numbers_in xs) (sym same) ∙ sym (numbers_append front (y ∷ xs)))) rising

-- ----- one among them
below_middle : (n : ℕ) (front : List Script) (x : Script) (xs : List Script) → Each (IsBelow n) (front ++ x ∷ xs)
    → n < x.number
below_middle n [] x xs each = each.0
below_middle n (y ∷ front) x xs each = below_middle n front x xs each.1

pub find_middle : (front : List Script) (x : Script) (xs : List Script) → AreRising (front ++ x ∷ xs)
    → find (has_number x.number) (front ++ x ∷ xs) ≡ Some x
find_middle [] x xs rising = rw (same_number x.number x.number refl) refl
find_middle (y ∷ front) x xs rising =
    let past : has_number x.number y ≡ false =
    apart_number y.number x.number (below_middle y.number front x xs rising.0) in
    rw past (find_middle front x xs rising.1)

pub put_middle : (front : List Script) (x y : Script) (xs : List Script) → y.number ≡ x.number
    → AreRising (front ++ x ∷ xs)
    → change_first (λ (r : Script). r.number == y.number) (λ (r : Script). y) (front ++ x ∷ xs) ≡ front ++ y ∷ xs
put_middle [] x y xs same rising =
    let test : (x.number == y.number) ≡ true = same_number x.number y.number (sym same) in
    rw (test, change_first) refl
put_middle (z ∷ front) x y xs same rising =
    let past : (z.number == y.number) ≡ false =
    apart_number z.number y.number
    (subst (λ (k : ℕ). z.number < k) (sym same) (below_middle z.number front x xs rising.0)) in
    rw (past, change_first) (ap (λ zs. z ∷ zs) (put_middle front x y xs same rising.1))

pub rising_back : (front xs : List Script) → AreRising (front ++ xs) → AreRising xs
rising_back [] xs rising = rising
rising_back (y ∷ front) xs rising = rising_back front xs rising.1

-- the others have other numbers
pub later_differ : (n : ℕ) (xs : List Script) → Each (IsBelow n) xs
    → Each (λ (x : Script). x.number ≡ n → ⊥) xs
later_differ n xs each =
    each_more (IsBelow n) (λ (x : Script). x.number ≡ n → ⊥) (λ x below same. not_below n x.number below same) xs each
  where
    not_below : (a b : ℕ) → a < b → b ≡ a → ⊥
    not_below a b below same = omega (arith, below, same)

pub append_one : (front : List Script) (x : Script) (xs : List Script) → (front ++ x ∷ []) ++ xs ≡ front ++ x ∷ xs
append_one front x xs = append_assoc front (x ∷ []) xs
