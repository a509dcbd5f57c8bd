-- Lists with the same elements, by how often each stands in them: for the laws of sockets that are given up and of
-- flows that are swept.
use Rattle.std.proofs.Common.{◌≡◌, ◌+◌, ◌≤◌, ◌&&◌, cond, Bool, true, false, List, [], ◌∷◌, ◌++◌, map}
use Rattle.std.proofs.Common.{refl, sym, ap, subst, arith, count_by}
use Rattle.std.specs.Prelude.{IsPermutation}
use Rattle.std.specs.List.{filter}
use Rattle.std.proofs.lemmas.List.Sorted.{IsPermutation-refl, IsPermutation-sym, IsPermutation-trans}
use Rattle.std.proofs.lemmas.List.Sorted.{IsPermutation-cons, IsPermutation-middle, sum_by-IsPermutation}
use Rattle.host_rounds.specs.Lists.{Each}
use Rattle.core_rounds.proofs.Filters.{tally, count_cons}

-- ----- counts
pub count_middle : {X : Type 0} (p : X → Bool) (xs : List X) (x : X) (ys : List X)
    → count_by p (xs ++ x ∷ ys) ≡ tally (p x) + count_by p (xs ++ ys)
count_middle p [] x ys = count_cons p x ys
count_middle p (z ∷ zs) x ys =
    let a : count_by p (z ∷ (zs ++ x ∷ ys)) ≡ tally (p z) + count_by p (zs ++ x ∷ ys) =
    count_cons p z (zs ++ x ∷ ys) in
    let b : count_by p (zs ++ x ∷ ys) ≡ tally (p x) + count_by p (zs ++ ys) = count_middle p zs x ys in
    let c : count_by p (z ∷ (zs ++ ys)) ≡ tally (p z) + count_by p (zs ++ ys) = count_cons p z (zs ++ ys) in
    omega (arith, a, b, c)

pub count_each : {X : Type 0} (p q : X → Bool) (xs : List X) → Each (λ (x : X). p x ≡ q x) xs
    → count_by p xs ≡ count_by q xs
count_each p q [] each = refl
count_each p q (x ∷ xs) each =
    let a : count_by p (x ∷ xs) ≡ tally (p x) + count_by p xs = count_cons p x xs in
    let b : count_by q (x ∷ xs) ≡ tally (q x) + count_by q xs = count_cons q x xs in
    let c : tally (p x) ≡ tally (q x) = ap tally each.0 in
    let d : count_by p xs ≡ count_by q xs = count_each p q xs each.1 in
    omega (arith, a, b, c, d)

pub count_filter : {X : Type 0} (p q : X → Bool) (xs : List X)
    → count_by p (filter q xs) ≡ count_by (λ (x : X). q x && p x) xs
count_filter p q [] = refl
count_filter {X} p q (x ∷ xs) = by (q x) refl (count_filter p q xs)
  where
    by : (b : Bool) → q x ≡ b → count_by p (filter q xs) ≡ count_by (λ (y : X). q y && p y) xs
        → count_by p (cond b (x ∷ filter q xs) (filter q xs)) ≡ count_by (λ (y : X). q y && p y) (x ∷ xs)
    by true e rest =
        let a : count_by p (x ∷ filter q xs) ≡ tally (p x) + count_by p (filter q xs) = count_cons p x (filter q xs) in
        let b : count_by (λ (y : X). q y && p y) (x ∷ xs)
        ≡ tally (q x && p x) + count_by (λ (y : X). q y && p y) xs = count_cons (λ (y : X). q y && p y) x xs in
        let c : tally (q x && p x) ≡ tally (p x) = ap (λ t. tally (t && p x)) e in
        omega (arith, a, b, c, rest)
    by false e rest =
        let b : count_by (λ (y : X). q y && p y) (x ∷ xs)
        ≡ tally (q x && p x) + count_by (λ (y : X). q y && p y) xs = count_cons (λ (y : X). q y && p y) x xs in
        let c : tally (q x && p x) ≡ 0 = ap (λ t. tally (t && p x)) e in
        omega (arith, b, c, rest)

pub count_map : {X Y : Type 0} (f : X → Y) (p : Y → Bool) (xs : List X)
    → count_by p (map f xs) ≡ count_by (λ (x : X). p (f x)) xs
count_map f p [] = refl
count_map {X} f p (x ∷ xs) =
    let a : count_by p (f x ∷ map f xs) ≡ tally (p (f x)) + count_by p (map f xs) = count_cons p (f x) (map f xs) in
    let b : count_by (λ (y : X). p (f y)) (x ∷ xs) ≡ tally (p (f x)) + count_by (λ (y : X). p (f y)) xs =
    count_cons (λ (y : X). p (f y)) x xs in
    let c : count_by p (map f xs) ≡ count_by (λ (y : X). p (f y)) xs = count_map f p xs in
    omega (arith, a, b, c)

pub count_none : {X : Type 0} (p : X → Bool) (xs : List X) → Each (λ (x : X). p x ≡ false) xs → count_by p xs ≡ 0
count_none p [] each = refl
count_none p (x ∷ xs) each =
    let a : count_by p (x ∷ xs) ≡ tally (p x) + count_by p xs = count_cons p x xs in
    let b : tally (p x) ≡ 0 = ap tally each.0 in
    let c : count_by p xs ≡ 0 = count_none p xs each.1 in
    omega (arith, a, b, c)

pub count_same : {X : Type 0} (p : X → Bool) (xs ys : List X) → IsPermutation xs ys
    → count_by p xs ≡ count_by p ys
count_same {X} p xs ys perm = sym (sum_by-IsPermutation (λ (x : X). cond (p x) 1 0) xs ys perm)

-- ----- the same elements
-- what an element is among others
pub record IsFound {X : Type 0} (x : X) (ys : List X) : Type 0 where
  pub before : List X
  pub behind : List X
  pub is : ys ≡ before ++ x ∷ behind

module _ {X : Type 0} (same : X → X → Bool) (is : (x y : X) → same x y ≡ true → x ≡ y)
    (self : (x : X) → same x x ≡ true) where
  pub found : (x : X) (ys : List X) → 1 ≤ count_by (same x) ys → IsFound x ys
  found x [] some = let none : count_by (same x) [] ≡ 0 = refl in absurd (omega (arith, some, none))
  found x (y ∷ ys) some = by (same x y) refl (found x ys)
    where
      by : (b : Bool) → same x y ≡ b → (1 ≤ count_by (same x) ys → IsFound x ys) → IsFound x (y ∷ ys)
      by true e rest = record { before = []; behind = ys; is = ap (λ z. z ∷ ys) (sym (is x y e)) }
      by false e rest =
          let a : count_by (same x) (y ∷ ys) ≡ tally (same x y) + count_by (same x) ys = count_cons (same x) y ys in
          let b : tally (same x y) ≡ 0 = ap tally e in
          let r = rest (omega (arith, a, b, some)) in
          record { before = y ∷ r.before; behind = r.behind; is = ap (λ l. y ∷ l) r.is }

  pub by_counts : (xs ys : List X) → ((x : X) → count_by (same x) xs ≡ count_by (same x) ys) → IsPermutation xs ys
  by_counts [] [] counts = IsPermutation-refl []
  by_counts [] (y ∷ ys) counts =
      let a : count_by (same y) (y ∷ ys) ≡ tally (same y y) + count_by (same y) ys = count_cons (same y) y ys in
      let b : tally (same y y) ≡ 1 = ap tally (self y) in
      let c : count_by (same y) [] ≡ count_by (same y) (y ∷ ys) = counts y in
      let none : count_by (same y) [] ≡ 0 = refl in
      absurd (omega (arith, a, b, c, none))
  by_counts (x ∷ xs) ys counts =
      let a : count_by (same x) (x ∷ xs) ≡ tally (same x x) + count_by (same x) xs = count_cons (same x) x xs in
      let b : tally (same x x) ≡ 1 = ap tally (self x) in
      let c : count_by (same x) (x ∷ xs) ≡ count_by (same x) ys = counts x in
      let f = found x ys (omega (arith, a, b, c)) in
      subst (IsPermutation (x ∷ xs)) (sym f.is)
      (IsPermutation-trans (x ∷ xs) (x ∷ (f.before ++ f.behind)) (f.before ++ x ∷ f.behind)
      (IsPermutation-cons x xs (f.before ++ f.behind) (by_counts xs (f.before ++ f.behind) (λ z. rest f z)))
      (IsPermutation-sym (f.before ++ x ∷ f.behind) (x ∷ (f.before ++ f.behind))
      (IsPermutation-middle f.before x f.behind)))
    where
      rest : (f : IsFound x ys) (z : X) → count_by (same z) xs ≡ count_by (same z) (f.before ++ f.behind)
      rest f z =
          let a : count_by (same z) (x ∷ xs) ≡ tally (same z x) + count_by (same z) xs = count_cons (same z) x xs in
          let b : count_by (same z) (x ∷ xs) ≡ count_by (same z) ys = counts z in
          let c : count_by (same z) ys ≡ count_by (same z) (f.before ++ x ∷ f.behind) =
          ap (λ l. count_by (same z) l) f.is in
          let d : count_by (same z) (f.before ++ x ∷ f.behind)
          ≡ tally (same z x) + count_by (same z) (f.before ++ f.behind) =
          count_middle (same z) f.before x f.behind in
          omega (arith, a, b, c, d)
