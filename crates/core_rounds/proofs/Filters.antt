-- Of lists with the same elements, of which one passes a test at most, the same passes: for the law shares_are_done.
use Rattle.std.proofs.Common.{◌≡◌, ℕ, zero, suc, ◌+◌, ◌≤◌, List, [], ◌∷◌, Bool, true, false, cond, refl, sym, ap, ◌∙◌}
use Rattle.std.proofs.Common.{arith, true≢false, All, ◌⊎◌, inl, inr}
use Rattle.std.specs.Prelude.{count_by, IsPermutation}
use Rattle.std.specs.List.{filter}
use Rattle.std.proofs.lemmas.List.Sums.{sum_by-cons}
use Rattle.std.proofs.lemmas.List.Elements.{All-cons, All-head, All-tail, All-nil}
use Rattle.std.proofs.lemmas.List.Sorted.{All-permutation, sum_by-IsPermutation}

-- ----- how many pass a test
abbrev pub tally : Bool → ℕ
tally b = cond b 1 0

pub count_cons : {X : Type 0} (p : X → Bool) (x : X) (xs : List X)
    → count_by p (x ∷ xs) ≡ tally (p x) + count_by p xs
count_cons p x xs = sum_by-cons (λ y. cond (p y) 1 0) x xs

one_if : (b : Bool) → b ≡ true → tally b ≡ 1
one_if true h = refl
one_if false h = absurd (true≢false (sym h))

none_if : (b : Bool) → b ≡ false → tally b ≡ 0
none_if true h = absurd (true≢false h)
none_if false h = refl

pub none_passes : {X : Type 0} (p : X → Bool) (xs : List X) → count_by p xs ≡ 0 → filter p xs ≡ []
none_passes p [] h = refl
none_passes {X} p (x ∷ xs) h = by_test (p x) refl (none_passes p xs) where
  by_test : (b : Bool) → p x ≡ b → (count_by p xs ≡ 0 → filter p xs ≡ [])
      → cond b (x ∷ filter p xs) (filter p xs) ≡ []
  by_test true is rest =
      let one : tally (p x) ≡ 1 = one_if (p x) is in absurd (omega (arith, count_cons p x xs, one, h))
  by_test false is rest = rest (omega (arith, count_cons p x xs, h))

-- none in the list passes, so each that does is any
pub none_is : {X : Type 0} (p : X → Bool) (xs : List X) → count_by p xs ≡ 0 → All (λ (y : X). p y ≡ true → ⊥) xs
none_is {X} p [] h = All-nil (λ (y : X). p y ≡ true → ⊥)
none_is {X} p (x ∷ xs) h =
    let rest : count_by p xs ≡ 0 = omega (arith, count_cons p x xs, h) in
    All-cons (λ (y : X). p y ≡ true → ⊥) x xs
    (λ is. let one : tally (p x) ≡ 1 = one_if (p x) is in absurd (omega (arith, count_cons p x xs, one, h)))
    (none_is p xs rest)

record One {X : Type 0} (p : X → Bool) (xs : List X) : Type 0 where
  one : X
  is : filter p xs ≡ one ∷ []
  only : All (λ (y : X). p y ≡ true → y ≡ one) xs

find_one : {X : Type 0} (p : X → Bool) (xs : List X) → count_by p xs ≡ 1 → One p xs
find_one p [] h = absurd (omega (arith, h))
find_one {X} p (x ∷ xs) h = by_test (p x) refl (find_one p xs) where
  by_test : (b : Bool) → p x ≡ b → (count_by p xs ≡ 1 → One p xs) → One p (x ∷ xs)
  by_test true is rest =
      let one : tally (p x) ≡ 1 = one_if (p x) is in
      let none : count_by p xs ≡ 0 = omega (arith, count_cons p x xs, one, h) in
      let never : All (λ (y : X). p y ≡ true → ⊥) xs = none_is p xs none in
      record {
        one = x;
        is = ap (λ (c : Bool). cond c (x ∷ filter p xs) (filter p xs)) is
            ∙ ap (λ (ys : List X). x ∷ ys) (none_passes p xs none);
        only = All-cons (λ (y : X). p y ≡ true → y ≡ x) x xs (λ e. refl) (λ k d low. λ e. absurd (never k d low e));
      }
  by_test false is rest =
      let zero : tally (p x) ≡ 0 = none_if (p x) is in
      let r : One p xs = rest (omega (arith, count_cons p x xs, zero, h)) in
      record {
        one = r.one;
        is = ap (λ (c : Bool). cond c (x ∷ filter p xs) (filter p xs)) is ∙ r.is;
        only = All-cons (λ (y : X). p y ≡ true → y ≡ r.one) x xs (λ e. absurd (true≢false (sym e ∙ is))) r.only;
      }

head_is : {X : Type 0} (p : X → Bool) (xs : List X) (z x : X) → filter p xs ≡ z ∷ []
    → All (λ (y : X). p y ≡ true → y ≡ x) xs → z ≡ x
head_is p [] z x h all = absurd (cc (h))
head_is {X} p (y ∷ ys) z x h all =
    by_test (p y) refl h (λ e. head_is p ys z x e (All-tail (λ (w : X). p w ≡ true → w ≡ x) y ys all)) where
      by_test : (b : Bool) → p y ≡ b → cond b (y ∷ filter p ys) (filter p ys) ≡ z ∷ []
          → (filter p ys ≡ z ∷ [] → z ≡ x) → z ≡ x
      by_test true is e rest = first_is y z (filter p ys) e
          ∙ All-head (λ (w : X). p w ≡ true → w ≡ x) y ys all is where
            first_is : (a b : X) (ts : List X) → a ∷ ts ≡ b ∷ [] → b ≡ a
            first_is a b ts h = cc (h)
      by_test false is e rest = rest e

at_most_one : (n : ℕ) → n ≤ 1 → (n ≡ 0) ⊎ (n ≡ 1)
at_most_one zero h = inl refl
at_most_one (suc zero) h = inr refl
at_most_one (suc (suc n)) h = absurd (omega (arith, h))

-- Of lists with the same elements, of which one passes at most, the same passes.
pub same_filter : {X : Type 0} (p : X → Bool) (xs ys : List X) → IsPermutation xs ys → count_by p ys ≤ 1
    → filter p xs ≡ filter p ys
same_filter {X} p xs ys perm few = by_count (at_most_one (count_by p ys) few) where
  same : count_by p ys ≡ count_by p xs
  same = sum_by-IsPermutation (λ (x : X). cond (p x) 1 0) xs ys perm

  by_count : (count_by p ys ≡ 0) ⊎ (count_by p ys ≡ 1) → filter p xs ≡ filter p ys
  by_count (inl none) = none_passes p xs (sym same ∙ none) ∙ sym (none_passes p ys none)
  by_count (inr one) =
      let a : One p xs = find_one p xs (sym same ∙ one) in
      let b : One p ys = find_one p ys one in
      let e : b.one ≡ a.one = head_is p ys b.one a.one b.is
      (All-permutation (λ (y : X). p y ≡ true → y ≡ a.one) xs ys perm a.only) in
      a.is ∙ (ap (λ (z : X). z ∷ []) (sym e) ∙ sym b.is)
