-- Lemmas for programs that meet these definitions by loops over vectors: a search and a write, a write to each, and a
-- fold.
use Rattle.std.proofs.Common.{map, take, drop, ◌++◌, ◌+◌, ◌||◌, ◌≡◌, ◌∙◌, ℕ, zero, suc, ◌<◌, Bool, true, false, cond}
use Rattle.std.proofs.Common.{List, [], ◌∷◌, length, set, get_or, nat_lt, position, fold, Some, None, refl, sym, ap}
use Rattle.std.proofs.Common.{true≢false, arith, tests}
use Rattle.std.specs.List.{position_or_len, list_any}
use Rattle.std.proofs.lemmas.List.Sums.{fails_before_first}
use Rattle.std.proofs.lemmas.List.Quantifiers.{position-Some}
use Rattle.host_rounds.specs.Lists.{change_first}
use Rattle.host_rounds.specs.Scripts.{Site, Scripts}
use Rattle.host_rounds.specs.Rounds.{Due}
use Rattle.host_rounds.specs.SerialOrder.{serial_tick, serial_ticks}

-- ----- a search and a write
-- Where the test first passes at i, the write there is the change of the first that passes.
pub changed_at : {X : Type 0} (test : X → Bool) (f : X → X) (xs : List X) (i : ℕ) (d : X) → i < length xs
    → test (get_or xs i d) ≡ true → ((k : ℕ) → k < i → test (get_or xs k d) ≡ false)
    → change_first test f xs ≡ set xs i (f (get_or xs i d))
changed_at test f [] i d below here before = absurd (omega arith)
changed_at test f (x ∷ xs) zero d below here before = rw (here, change_first) refl
changed_at {X} test f (x ∷ xs) (suc i) d below here before =
    let past : test x ≡ false = before 0 (omega arith) in
    let rest : change_first test f xs ≡ set xs i (f (get_or xs i d)) =
    changed_at test f xs i d (omega arith) here (λ k h. before (suc k) (omega arith)) in
    rw (past, change_first) (ap (λ (zs : List X). x ∷ zs) rest)

-- where it passes nowhere, nothing changes
pub none_changed : {X : Type 0} (test : X → Bool) (f : X → X) (xs : List X) (d : X)
    → ((k : ℕ) → k < length xs → test (get_or xs k d) ≡ false) → change_first test f xs ≡ xs
none_changed test f [] d fails = refl
none_changed {X} test f (x ∷ xs) d fails =
    let past : test x ≡ false = fails 0 (omega arith) in
    let rest : change_first test f xs ≡ xs = none_changed test f xs d (λ k h. fails (suc k) (omega arith)) in
    rw (past, change_first) (ap (λ (zs : List X). x ∷ zs) rest)

not_lower : (b : Bool) (i : ℕ) → cond b (Some i) None ≡ None → b ≡ false
not_lower true i h = absurd (cc (h))
not_lower false i h = refl

or_left : (a b : Bool) → (a || b) ≡ false → a ≡ false
or_left false b h = refl
or_left true b h = h

or_right : (a b : Bool) → (a || b) ≡ false → b ≡ false
or_right false b h = h
or_right true b h = absurd (true≢false h)

none_of : {X : Type 0} (test : X → Bool) (xs : List X) (i : ℕ) (d : X) → i < length xs → list_any test xs ≡ false
    → test (get_or xs i d) ≡ false
none_of test [] i d below h = absurd (omega arith)
none_of test (x ∷ xs) zero d below h = or_left (test x) (list_any test xs) h
none_of test (x ∷ xs) (suc i) d below h = none_of test xs i d (omega arith) (or_right (test x) (list_any test xs) h)

-- the same by the search
pub none_found : {X : Type 0} (test : X → Bool) (f : X → X) (xs : List X) → position test xs ≡ None
    → change_first test f xs ≡ xs
none_found test f [] h = refl
none_found {X} test f (x ∷ xs) h =
    let ends : nat_lt (position_or_len test (x ∷ xs)) (length (x ∷ xs)) ≡ false = not_lower _ _ h in
    none_changed test f (x ∷ xs) x (λ k below. fails_before_first test (x ∷ xs) k x (grind (arith, tests, ends, below)))

-- where it is found there is one
pub known_found : {X : Type 0} (test : X → Bool) (xs : List X) (i : ℕ) → position test xs ≡ Some i
    → list_any test xs ≡ true
known_found {X} test [] i h = absurd (cc (h))
known_found {X} test (x ∷ xs) i h = by_any (list_any test (x ∷ xs)) refl where
  by_any : (b : Bool) → list_any test (x ∷ xs) ≡ b → list_any test (x ∷ xs) ≡ true
  by_any true g = g
  by_any false g =
      let at = position-Some test (x ∷ xs) i x h in
      absurd (true≢false (sym at.1 ∙ none_of test (x ∷ xs) i x at.0 g))

-- ----- a write to each
-- i are changed, and then one more
pub mapped_at : {X : Type 0} (f : X → X) (xs : List X) (i : ℕ) (d : X) → i < length xs
    → set (map f (take i xs) ++ drop i xs) i (f (get_or (map f (take i xs) ++ drop i xs) i d)) ≡ map f (take (i + 1) xs)
    ++ drop (i + 1) xs
mapped_at f [] i d below = absurd (omega arith)
mapped_at f (x ∷ xs) zero d below = refl
mapped_at {X} f (x ∷ xs) (suc i) d below =
    let next : suc i + 1 ≡ suc (i + 1) = omega arith in
    rw next (ap (λ (zs : List X). f x ∷ zs) (mapped_at f xs i d (omega arith)))

-- ----- a fold
-- what is left to do, one item less
pub fold_left : {A B : Type 0} (f : B → A → B) (a : B) (xs : List A) (i : ℕ) (d : A) → i < length xs
    → fold f a (drop i xs) ≡ fold f (f a (get_or xs i d)) (drop (i + 1) xs)
fold_left f a [] i d below = absurd (omega arith)
fold_left f a (x ∷ xs) zero d below = refl
fold_left f a (x ∷ xs) (suc i) d below =
    let next : suc i + 1 ≡ suc (i + 1) = omega arith in
    rw next (fold_left f a xs i d (omega arith))

-- what is left of the run, one tick less
pub ticks_left : {S A : Type 0} (scripts : Scripts S A) (t : ℕ) (site : Site S) (dues : List (Due A)) (i : ℕ)
    (d : Due A) → i < length dues
    → serial_ticks scripts t site (drop i dues) ≡ serial_ticks scripts (t + 1)
    (serial_tick scripts t site (get_or dues i d)) (drop (i + 1) dues)
unfolding serial_ticks
ticks_left scripts t site [] i d below = absurd (omega arith)
ticks_left scripts t site (due ∷ dues) zero d below = refl
ticks_left scripts t site (due ∷ dues) (suc i) d below =
    let next : suc i + 1 ≡ suc (i + 1) = omega arith in
    rw next (ticks_left scripts t site dues i d (omega arith))

pub ticks_done : {S A : Type 0} (scripts : Scripts S A) (t : ℕ) (site : Site S) → serial_ticks scripts t site [] ≡ site
unfolding serial_ticks
ticks_done scripts t site = refl
