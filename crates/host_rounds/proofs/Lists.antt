-- Lists: appends, and a change at a place.
use Rattle.std.proofs.Common.{◌≡◌, ℕ, ◌+◌, Bool, true, false, cond, List, [], ◌∷◌, ◌++◌, length, map, fold, filter}
use Rattle.std.proofs.Common.{refl, ap, arith, length-append}
use Rattle.host_rounds.specs.Lists.{Each, change_at}

pub fold_append : {A B : Type 0} (f : B → A → B) (a : B) (xs ys : List A)
    → fold f a (xs ++ ys) ≡ fold f (fold f a xs) ys
fold_append f a [] ys = refl
fold_append f a (x ∷ xs) ys = fold_append f (f a x) xs ys

pub map_append : {A B : Type 0} (f : A → B) (xs ys : List A) → map f (xs ++ ys) ≡ map f xs ++ map f ys
map_append f [] ys = refl
map_append {B = B} f (x ∷ xs) ys = ap (λ (zs : List B). f x ∷ zs) (map_append f xs ys)

pub filter_append : {A : Type 0} (test : A → Bool) (xs ys : List A)
    → filter test (xs ++ ys) ≡ filter test xs ++ filter test ys
filter_append test [] ys = refl
filter_append {A} test (x ∷ xs) ys = by_test (test x) (filter_append test xs ys) where
  by_test : (b : Bool) → filter test (xs ++ ys) ≡ filter test xs ++ filter test ys
      → cond b (x ∷ filter test (xs ++ ys)) (filter test (xs ++ ys)) ≡ cond b (x ∷ filter test xs) (filter test xs)
      ++ filter test ys
  by_test true h = ap (λ (zs : List A). x ∷ zs) h
  by_test false h = h

pub each_append : {A : Type 0} (P : A → Type 0) (xs ys : List A) → Each P xs → Each P ys → Each P (xs ++ ys)
each_append P [] ys a b = b
each_append P (x ∷ xs) ys a b = (a.0, each_append P xs ys a.1 b)

pub change_past : {X : Type 0} (f : X → X) (pre : List X) (x : X) (xs : List X)
    → change_at (length pre) f (pre ++ x ∷ xs) ≡ pre ++ f x ∷ xs
change_past f [] x xs = refl
change_past {X} f (p ∷ pre) x xs = ap (λ (zs : List X). p ∷ zs) (change_past f pre x xs)

pub length_push : {X : Type 0} (n : ℕ) (pre : List X) (x : X) → n ≡ length pre → n + 1 ≡ length (pre ++ x ∷ [])
length_push n pre x h = grind (arith, length-append pre (x ∷ []), h)
