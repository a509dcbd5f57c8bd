-- The next item of a list.
use Rattle.std.proofs.Common.{◌≡◌, ℕ, zero, suc, ◌≤◌, List, [], ◌∷◌, ◌++◌, length, take, drop, refl, ap}
use Rattle.std.proofs.Common.{Option, Some, None, arith}
use Rattle.std.proofs.lemmas.Option.{same_Some}

abbrev head_of : {A : Type 0} → List A → Option A
head_of [] = None
head_of (x ∷ xs) = Some x

abbrev tail_of : {A : Type 0} → List A → List A
tail_of [] = []
tail_of (x ∷ xs) = xs

pub same_head : {A : Type 0} (x y : A) (xs ys : List A) → ◌≡◌ {A = List A} (x ∷ xs) (y ∷ ys) → x ≡ y
same_head x y xs ys e = same_Some x y (ap head_of e)

pub same_tail : {A : Type 0} (x y : A) (xs ys : List A) → ◌≡◌ {A = List A} (x ∷ xs) (y ∷ ys) → xs ≡ ys
same_tail x y xs ys e = ap tail_of e

-- what is left behind so many begins with the next one
pub take_next : {A : Type 0} (xs : List A) (i : ℕ) (y : A) (ys : List A) → drop i xs ≡ y ∷ ys
    → take (suc i) xs ≡ take i xs ++ y ∷ []
take_next [] zero y ys e = absurd (cc (e))
take_next [] (suc i) y ys e = absurd (cc (e))
take_next (x ∷ xs) zero y ys e = ap (λ z. z ∷ []) (same_head x y xs ys e)
take_next (x ∷ xs) (suc i) y ys e = ap (λ l. x ∷ l) (take_next xs i y ys e)

pub drop_next : {A : Type 0} (xs : List A) (i : ℕ) (y : A) (ys : List A) → drop i xs ≡ y ∷ ys → drop (suc i) xs ≡ ys
drop_next [] zero y ys e = absurd (cc (e))
drop_next [] (suc i) y ys e = absurd (cc (e))
drop_next (x ∷ xs) zero y ys e = same_tail x y xs ys e
drop_next (x ∷ xs) (suc i) y ys e = drop_next xs i y ys e

-- there are more than so many
pub below_next : {A : Type 0} (xs : List A) (i : ℕ) (y : A) (ys : List A) → drop i xs ≡ y ∷ ys → suc i ≤ length xs
below_next [] zero y ys e = absurd (cc (e))
below_next [] (suc i) y ys e = absurd (cc (e))
below_next (x ∷ xs) zero y ys e = omega arith
below_next (x ∷ xs) (suc i) y ys e = let h : suc i ≤ length xs = below_next xs i y ys e in omega (arith, h)

-- nothing is left: these are all
pub take_rest : {A : Type 0} (xs : List A) (i : ℕ) → drop i xs ≡ [] → take i xs ≡ xs
take_rest [] zero e = refl
take_rest [] (suc i) e = refl
take_rest (x ∷ xs) zero e = absurd (cc (e))
take_rest (x ∷ xs) (suc i) e = ap (λ l. x ∷ l) (take_rest xs i e)

-- so many of them stand there
pub take_within : {A : Type 0} (xs : List A) (i : ℕ) → i ≤ length xs → length (take i xs) ≡ i
take_within [] zero h = refl
take_within [] (suc i) h = absurd (omega (arith, h))
take_within (x ∷ xs) zero h = refl
take_within (x ∷ xs) (suc i) h = ap suc (take_within xs i (omega (arith, h)))

-- the same list, cut at the next one
pub cut_next : {A : Type 0} (xs : List A) (i : ℕ) (y : A) (ys : List A) → drop i xs ≡ y ∷ ys
    → xs ≡ take i xs ++ y ∷ ys
cut_next [] zero y ys e = absurd (cc (e))
cut_next [] (suc i) y ys e = absurd (cc (e))
cut_next (x ∷ xs) zero y ys e = e
cut_next (x ∷ xs) (suc i) y ys e = ap (λ l. x ∷ l) (cut_next xs i y ys e)

-- where nothing is left, so many are all
pub all_read : {A : Type 0} (xs : List A) (i : ℕ) → drop i xs ≡ [] → i ≤ length xs → i ≡ length xs
all_read [] zero e h = refl
all_read [] (suc i) e h = absurd (omega (arith, h))
all_read (x ∷ xs) zero e h = absurd (cc (e))
all_read (x ∷ xs) (suc i) e h = ap suc (all_read xs i e (omega (arith, h)))
