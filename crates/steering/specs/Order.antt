-- What stands in the cell and what passes know of it: the words of each table, in one order for all.
use Rattle.std.specs.Prelude.{◌≡◌, ℕ, List, [], ◌∷◌, ◌++◌}
use mathlib.Core.Option.{some}
use lib.ListN.{get_elem?}
use Rattle.steering.specs.Tables.{Begins, EndsWith}
use Rattle.steering.specs.declared.order.Seen.{Seen}

-- the words of the first table: each group on its first core
abbrev pub first_words : List ℕ
first_words = 0 ∷ 0 ∷ 0 ∷ 0 ∷ []

abbrev pub newcomer : Seen
newcomer = record { words = first_words ∷ [] }

-- There is one order of all tables, whose last is in the cell. What each pass has seen is its beginning.
abbrev pub OneOrder : List ℕ → List Seen → Type 0
OneOrder cell views =
    (log : List (List ℕ)) × EndsWith cell log × ((k : ℕ) (v : Seen) → get_elem? views k ≡ some v → Begins v.words log)

-- a load: the pass has seen the tables up to the one that it found
abbrev pub loaded : Seen → List ℕ → List ℕ → Seen → Type 0
loaded v found left w = Begins v.words w.words × EndsWith left w.words

-- a swap: the new table is the last one now
abbrev pub swapped : Seen → List ℕ → List ℕ → Seen → Type 0
swapped v found left w = (between : List (List ℕ)) × (w.words ≡ (v.words ++ between) ++ left ∷ [])
