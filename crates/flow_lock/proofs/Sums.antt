-- Sums over lists, and what stands where in them.
use Rattle.std.proofs.Common.{◌≡◌, ◌≢◌, ℕ, zero, suc, ◌+◌, ◌<◌, ◌≤◌, List, [], ◌∷◌, ◌++◌, length, set, sym, refl, ap}
use Rattle.std.proofs.Common.{subst, arith}
use Rattle.std.specs.Prelude.{replicate, slice_index_or}
use mathlib.Core.Option as O
use mathlib.Core.Option.{some-injective, some-ne-none}
use lib.ListN.{get_elem?}
use Rattle.flow_lock.specs.Orders.{total}

module _ {A : Type 0} (g : A → ℕ) where
  pub total-set : (l : List A) (j : ℕ) (v w : A) → get_elem? l j ≡ O.some v
      → total g (set l j w) + g v ≡ total g l + g w
  total-set [] j v w e = absurd (some-ne-none v (sym e))
  total-set (x ∷ xs) zero v w e = omega (arith, ap g (some-injective x v e))
  total-set (x ∷ xs) (suc j) v w e = omega (arith, total-set xs j v w e)

  pub term_le : (l : List A) (j : ℕ) (v : A) → get_elem? l j ≡ O.some v → g v ≤ total g l
  term_le [] j v e = absurd (some-ne-none v (sym e))
  term_le (x ∷ xs) zero v e = omega (arith, ap g (some-injective x v e))
  term_le (x ∷ xs) (suc j) v e = omega (arith, term_le xs j v e)

  pub terms_le : (l : List A) (j k : ℕ) (v u : A) → k ≢ j → get_elem? l j ≡ O.some v → get_elem? l k ≡ O.some u
      → g v + g u ≤ total g l
  terms_le [] j k v u n e d = absurd (some-ne-none v (sym e))
  terms_le (x ∷ xs) zero zero v u n e d = absurd (n refl)
  terms_le (x ∷ xs) zero (suc k) v u n e d = omega (arith, ap g (some-injective x v e), term_le xs k u d)
  terms_le (x ∷ xs) (suc j) zero v u n e d = omega (arith, ap g (some-injective x u d), term_le xs j v e)
  terms_le (x ∷ xs) (suc j) (suc k) v u n e d = omega (arith, terms_le xs j k v u (λ h. n (ap suc h)) e d)

  pub total_below : (h : A → ℕ) (l : List A) → ((j : ℕ) (v : A) → get_elem? l j ≡ O.some v → g v ≤ h v)
      → total g l ≤ total h l
  total_below h [] all = omega arith
  total_below h (x ∷ xs) all = omega (arith, all 0 x refl, total_below h xs (λ j v e. all (suc j) v e))

  pub total-append : (l m : List A) → total g (l ++ m) ≡ total g l + total g m
  total-append [] m = omega arith
  total-append (x ∷ xs) m = omega (arith, total-append xs m)

  pub total_none : (l : List A) → ((j : ℕ) (v : A) → get_elem? l j ≡ O.some v → g v ≡ 0) → total g l ≡ 0
  total_none [] all = refl
  total_none (x ∷ xs) all = omega (arith, all 0 x refl, total_none xs (λ j v e. all (suc j) v e))

  -- one term alone
  pub total_one : (l : List A) (j : ℕ) (v : A) → get_elem? l j ≡ O.some v
      → ((k : ℕ) (u : A) → k ≢ j → get_elem? l k ≡ O.some u → g u ≡ 0) → total g l ≡ g v
  total_one [] j v e zero' = absurd (some-ne-none v (sym e))
  total_one (x ∷ xs) zero v e zero' = omega (
    arith,
    ap g (some-injective x v e),
    total_none xs (λ k u q. zero' (suc k) u (λ z. absurd (omega arith)) q),
  )
  total_one (x ∷ xs) (suc j) v e zero' = omega (
    arith,
    zero' 0 x (λ z. absurd (omega arith)) refl,
    total_one xs j v e (λ k u ne q. zero' (suc k) u (λ z. ne (omega arith)) q),
  )

module _ {A : Type 0} where
  pub at_copy : (n : ℕ) (x y : A) (i : ℕ) → get_elem? (replicate n x) i ≡ O.some y → x ≡ y
  at_copy zero x y i e = absurd (some-ne-none y (sym e))
  at_copy (suc n) x y zero e = some-injective x y e
  at_copy (suc n) x y (suc i) e = at_copy n x y i e

  pub is_copy : (n : ℕ) (x y : A) (B : Type 0) (z : B) (i : ℕ) → get_elem? (replicate n x) i ≡ O.some y
      → get_elem? (replicate n z) i ≡ O.some z
  is_copy zero x y B z i e = absurd (some-ne-none y (sym e))
  is_copy (suc n) x y B z zero e = refl
  is_copy (suc n) x y B z (suc i) e = is_copy n x y B z i e

  pub at_below : (l : List A) (i : ℕ) (a : A) → get_elem? l i ≡ O.some a → i < length l
  at_below [] i a e = absurd (some-ne-none a (sym e))
  at_below (x ∷ xs) zero a e = omega arith
  at_below (x ∷ xs) (suc i) a e = let h = at_below xs i a e in omega arith

  pub at_index : (l : List A) (i : ℕ) (a d : A) → get_elem? l i ≡ O.some a → slice_index_or l i d ≡ a
  at_index [] i a d e = absurd (some-ne-none a (sym e))
  at_index (x ∷ xs) zero a d e = some-injective x a e
  at_index (x ∷ xs) (suc i) a d e = at_index xs i a d e

  pub at_get : (l : List A) (i : ℕ) (d : A) → i < length l → get_elem? l i ≡ O.some (slice_index_or l i d)
  at_get [] i d h = absurd (omega arith)
  at_get (x ∷ xs) zero d h = refl
  at_get (x ∷ xs) (suc i) d h = at_get xs i d (omega arith)

  -- what is in both is in one of them
  pub in_both : (P : A → Type 0) (xs ys : List A) (k : ℕ) (h : A) → ((k : ℕ) (h : A) → get_elem? xs k ≡ O.some h → P h)
      → ((k : ℕ) (h : A) → get_elem? ys k ≡ O.some h → P h) → get_elem? (xs ++ ys) k ≡ O.some h → P h
  in_both P [] ys k h a b e = b k h e
  in_both P (x ∷ xs) ys zero h a b e = a 0 h e
  in_both P (x ∷ xs) ys (suc k) h a b e = in_both P xs ys k h (λ m y q. a (suc m) y q) b e

  pub one_only : (P : A → Type 0) (k : ℕ) (h x : A) → P h → get_elem? (h ∷ []) k ≡ O.some x → P x
  one_only P zero h x p e = subst P (some-injective h x e) p
  one_only P (suc k) h x p e = absurd (some-ne-none x (sym e))

  pub first_or : (P : A → Type 0) (f : A) (l : List A) (j : ℕ) (x : A) → get_elem? (f ∷ l) j ≡ O.some x
      → ((k : ℕ) (y : A) → get_elem? l k ≡ O.some y → P y) → P f → P x
  first_or P f l zero x e all one = subst P (some-injective f x e) one
  first_or P f l (suc j) x e all one = all j x e

  -- to write what stands there changes nothing
  pub set_same : (l : List A) (i : ℕ) (a : A) → get_elem? l i ≡ O.some a → set l i a ≡ l
  set_same [] i a e = refl
  set_same (x ∷ xs) zero a e = ap (λ y. y ∷ xs) (sym (some-injective x a e))
  set_same (x ∷ xs) (suc i) a e = ap (λ l. x ∷ l) (set_same xs i a e)
