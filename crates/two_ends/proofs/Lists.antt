-- Lists: facts of each item, forth and back.
use Rattle.std.proofs.Common.{◌≡◌, ℕ, zero, suc, Bool, true, false, cond}
use Rattle.std.proofs.Common.{List, [], ◌∷◌, ◌++◌, Contains, arith, map, filter, refl, sym}
use Rattle.std.proofs.Common.{◌∙◌, true≢false}
use Rattle.host_rounds.specs.Lists.{Each, change_first, change_at}

pub each_left : {X : Type 0} (P : X → Type 0) (xs ys : List X) → Each P (xs ++ ys) → Each P xs
each_left P [] ys all = tt
each_left P (x ∷ xs) ys all = (all.0, each_left P xs ys all.1)

pub each_right : {X : Type 0} (P : X → Type 0) (xs ys : List X) → Each P (xs ++ ys) → Each P ys
each_right P [] ys all = all
each_right P (x ∷ xs) ys all = each_right P xs ys all.1

pub each_filter : {X : Type 0} (P : X → Type 0) (test : X → Bool) (xs : List X) → Each P xs → Each P (filter test xs)
each_filter P test [] all = tt
each_filter {X} P test (x ∷ xs) all = by_test (test x) (each_filter P test xs all.1) where
  by_test : (b : Bool) → Each P (filter test xs) → Each P (cond b (x ∷ filter test xs) (filter test xs))
  by_test true rest = (all.0, rest)
  by_test false rest = rest

-- what holds of those that pass the test holds of each that passes it
pub filter_tells : {X : Type 0} (P : X → Type 0) (test : X → Bool) (xs : List X) → Each P (filter test xs)
    → Each (λ (x : X). test x ≡ true → P x) xs
filter_tells P test [] all = tt
filter_tells {X} P test (x ∷ xs) all = by_test (test x) refl all (λ rest. filter_tells P test xs rest) where
  by_test : (b : Bool) → test x ≡ b → Each P (cond b (x ∷ filter test xs) (filter test xs))
      → (Each P (filter test xs) → Each (λ (y : X). test y ≡ true → P y) xs)
      → (test x ≡ true → P x) × Each (λ (y : X). test y ≡ true → P y) xs
  by_test true h all more = (λ g. all.0, more all.1)
  by_test false h all more = (λ g. absurd (true≢false (sym g ∙ h)), more all)

pub each_as : {X : Type 0} (P R : X → Type 0) → ((x : X) → P x → R x) → (xs : List X) → Each P xs → Each R xs
each_as P R tells [] all = tt
each_as P R tells (x ∷ xs) all = (tells x all.0, each_as P R tells xs all.1)

pub each_both : {X : Type 0} (P R : X → Type 0) (xs : List X) → Each P xs → Each R xs → Each (λ (x : X). P x × R x) xs
each_both P R [] a b = tt
each_both P R (x ∷ xs) a b = ((a.0, b.0), each_both P R xs a.1 b.1)

pub each_under : {X : Type 0} (E : Type 0) (P : X → Type 0) (xs : List X) → (E → Each P xs)
    → Each (λ (x : X). E → P x) xs
each_under E P [] all = tt
each_under E P (x ∷ xs) all = (λ e. (all e).0, each_under E P xs (λ e. (all e).1))

pub each_given : {X : Type 0} (E : Type 0) (P : E → X → Type 0) (xs : List X) → ((e : E) → Each (P e) xs)
    → Each (λ (x : X). (e : E) → P e x) xs
each_given E P [] all = tt
each_given E P (x ∷ xs) all = (λ e. (all e).0, each_given E P xs (λ e. (all e).1))

pub each_always : {X : Type 0} (P : X → Type 0) → ((x : X) → P x) → (xs : List X) → Each P xs
each_always P holds [] = tt
each_always P holds (x ∷ xs) = (holds x, each_always P holds xs)

-- what each item tells of all items, it tells of itself
pub each_self : {X : Type 0} (P : X → X → Type 0) (xs : List X) → ((x : X) → Each (P x) xs) → Each (λ (x : X). P x x) xs
each_self P [] all = tt
each_self P (x ∷ xs) all = ((all x).0, each_self P xs (λ y. (all y).1))

-- each item is among them
pub each_contained : {X : Type 0} (xs : List X) → Each (Contains xs) xs
each_contained [] = tt
each_contained (x ∷ xs) = (
  (0, omega arith, refl),
  each_as (Contains xs) (Contains (x ∷ xs)) (λ y c. (suc c.0, omega (arith, c.1), c.2)) xs
      (each_contained xs),
)

-- ----- changes, backwards
pub map_back : {X : Type 0} (P : X → Type 0) (f : X → X) → ((x : X) → P (f x) → P x) → (xs : List X) → Each P (map f xs)
    → Each P xs
map_back P f back [] all = tt
map_back P f back (x ∷ xs) all = (back x all.0, map_back P f back xs all.1)

pub first_back : {X : Type 0} (P : X → Type 0) (test : X → Bool) (f : X → X) → ((x : X) → P (f x) → P x) → (xs : List X)
    → Each P (change_first test f xs) → Each P xs
first_back P test f back [] all = tt
first_back {X} P test f back (x ∷ xs) all = by_test (test x) all (λ rest. first_back P test f back xs rest) where
  by_test : (b : Bool) → Each P (elim b [ true ↦ f x ∷ xs | false ↦ x ∷ change_first test f xs ])
      → (Each P (change_first test f xs) → Each P xs) → P x × Each P xs
  by_test true all more = (back x all.0, all.1)
  by_test false all more = (all.0, more all.1)

pub at_back : {X : Type 0} (P : X → Type 0) (n : ℕ) (f : X → X) → ((x : X) → P (f x) → P x) → (xs : List X)
    → Each P (change_at n f xs) → Each P xs
at_back P n f back [] all = tt
at_back P zero f back (x ∷ xs) all = (back x all.0, all.1)
at_back P (suc n) f back (x ∷ xs) all = (all.0, at_back P n f back xs all.1)

-- ----- changes, forwards
-- of the first that passes the test it is known that it does
pub first_there : {X : Type 0} (P : X → Type 0) (test : X → Bool) (f : X → X)
    → ((x : X) → test x ≡ true → P x → P (f x)) → (xs : List X) → Each P xs → Each P (change_first test f xs)
first_there P test f kept [] all = tt
first_there {X} P test f kept (x ∷ xs) all = by_test (test x) refl (first_there P test f kept xs all.1) where
  by_test : (b : Bool) → test x ≡ b → Each P (change_first test f xs)
      → Each P (elim b [ true ↦ f x ∷ xs | false ↦ x ∷ change_first test f xs ])
  by_test true h rest = (kept x h all.0, all.1)
  by_test false h rest = (all.0, rest)
