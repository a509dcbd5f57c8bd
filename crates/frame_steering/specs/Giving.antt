-- Frames that were handed out, by the core that each goes to.
use Rattle.std.specs.Prelude.{ℕ, zero, suc, ◌==◌, cond, List, [], ◌∷◌, ◌++◌}

-- Those that are for this core, in their order; `handed` has the core of each.
abbrev pub given_to : {X : Type 0} → (core : ℕ) → (handed : List ℕ) → List X → List X
given_to core [] xs = []
given_to core (c ∷ cs) [] = []
given_to core (c ∷ cs) (x ∷ xs) = cond (c == core) (x ∷ given_to core cs xs) (given_to core cs xs)

-- those for core 0, and then those for the next ones, below this number
abbrev pub given_below : {X : Type 0} → (cores : ℕ) → (handed : List ℕ) → List X → List X
given_below zero handed xs = []
given_below (suc core) handed xs = given_below core handed xs ++ given_to core handed xs
