-- Lists with one item more, and what stands at a place.
use Rattle.std.proofs.Common.{◌≡◌, ℕ, zero, suc, List, [], ◌∷◌, ◌++◌, length, Option, Some, None, slice_get, refl}
use Rattle.host_rounds.specs.Lists.{Each}

pub none_some : {X : Type 0} (x : X) → ◌≡◌ {A = Option X} None (Some x) → ⊥
none_some x is = absurd (cc (is))

pub each_map : {X : Type 0} (P Q : X → Type 0) (l : List X) → ((x : X) → P x → Q x) → Each P l → Each Q l
each_map P Q [] f e = tt
each_map P Q (x ∷ xs) f e = (f x e.0, each_map P Q xs f e.1)

pub each_more : {X : Type 0} (P : X → Type 0) (l : List X) (x : X) → Each P l → P x → Each P (l ++ x ∷ [])
each_more P [] x e p = (p, tt)
each_more P (y ∷ ys) x e p = (e.0, each_more P ys x e.1 p)

-- what stands in a list stands at its place still when it grows
pub still_there : {X : Type 0} (xs : List X) (y x : X) (i : ℕ) → slice_get xs i ≡ Some x
    → slice_get (xs ++ y ∷ []) i ≡ Some x
still_there [] y x i is = absurd (none_some x is)
still_there (z ∷ xs) y x zero is = is
still_there (z ∷ xs) y x (suc i) is = still_there xs y x i is

-- and the new item stands behind it
pub last_there : {X : Type 0} (xs : List X) (y : X) → slice_get (xs ++ y ∷ []) (length xs) ≡ Some y
last_there [] y = refl
last_there (x ∷ xs) y = last_there xs y
