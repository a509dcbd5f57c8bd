-- A loop that changes each item in turn.
use Rattle.std.proofs.Common.{map, take, drop, ◌++◌, ◌+◌, ◌≡◌, ℕ, zero, suc, ◌<◌, List, [], ◌∷◌, length, set, get_or}
use Rattle.std.proofs.Common.{refl, ap, arith}

pub mapped_at : {X : Type 0} (f : X → X) (xs : List X) (i : ℕ) (d : X) → i < length xs
    → set (map f (take i xs) ++ drop i xs) i (f (get_or (map f (take i xs) ++ drop i xs) i d)) ≡ map f (take (i + 1) xs)
    ++ drop (i + 1) xs
mapped_at f [] i d below = absurd (omega arith)
mapped_at f (x ∷ xs) zero d below = refl
mapped_at {X} f (x ∷ xs) (suc i) d below =
    let next : suc i + 1 ≡ suc (i + 1) = omega arith in
    rw next (ap (λ (zs : List X). f x ∷ zs) (mapped_at f xs i d (omega arith)))
