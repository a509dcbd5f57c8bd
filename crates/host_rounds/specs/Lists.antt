-- Changes of one item of a list, and facts of each.
use Rattle.std.specs.Prelude.{ℕ, zero, suc, Bool, true, false, List, [], ◌∷◌, ⊤}

-- the fact holds of each
abbrev pub Each : {X : Type 0} → (X → Type 0) → List X → Type 0
Each P [] = ⊤
Each P (x ∷ xs) = P x × Each P xs

-- the first that passes the test is changed
abbrev pub change_first : {X : Type 0} → (X → Bool) → (X → X) → List X → List X
change_first test f [] = []
change_first test f (x ∷ xs) = elim (test x) [ true ↦ f x ∷ xs | false ↦ x ∷ change_first test f xs ]

-- the one at this place, counted from 0, is changed
abbrev pub change_at : {X : Type 0} → (place : ℕ) → (X → X) → List X → List X
change_at place f [] = []
change_at zero f (x ∷ xs) = f x ∷ xs
change_at (suc place) f (x ∷ xs) = x ∷ change_at place f xs
