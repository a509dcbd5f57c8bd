-- How the frames of a tick are handed out to cores, while groups move.
use Rattle.std.specs.Prelude.{◌≡◌, ℕ, ◌%◌, ◌==◌, not, Bool, true, false, List, [], ◌∷◌, filter, slice_index_or}
use Rattle.steering.specs.Tables.{Table, Begins, IsCoreIn, Assigned}
use Rattle.frame_steering.specs.declared.handing.GroupMove.{GroupMove}

abbrev pub is_of : (group : ℕ) → GroupMove → Bool
is_of group m = m.group == group

abbrev pub moves_of : (group : ℕ) → List GroupMove → List GroupMove
moves_of group moves = filter (is_of group) moves

abbrev pub moves_but : (group : ℕ) → List GroupMove → List GroupMove
moves_but group moves = filter (λ (m : GroupMove). not (is_of group m)) moves

-- its group is among those that wait: the list says of each group whether it does
abbrev pub waits : List Bool → GroupMove → Bool
waits waiting m = slice_index_or waiting m.group false

-- a move is made where it is to be
abbrev pub IsMovedIf : (made : Bool) → (cores : ℕ) → GroupMove → List Table → List Table → Type 0
IsMovedIf true cores m tables now = Assigned m.group (m.core % cores) tables now
IsMovedIf false cores m tables now = now ≡ tables

-- These moves are made, one after the other: each puts its group on its core, by that number modulo the cores.
abbrev pub AreMoved : (cores : ℕ) → List Table → List GroupMove → List Table → Type 0
AreMoved cores tables [] now = now ≡ tables
AreMoved cores tables (m ∷ ms) now =
    (next : List Table) × Assigned m.group (m.core % cores) tables next × AreMoved cores next ms now

-- A frame of this group is handed to this core: the one that the table names then. After it the moves of its group are
-- made.
pub record IsHanded (cores : ℕ) (tables : List Table) (moves : List GroupMove) (group core : ℕ) (now : List Table)
    : Type 0 where
  pub found : List Table
  pub seen : Begins tables found
  pub names : IsCoreIn found group core
  pub moved : AreMoved cores found (moves_of group moves) now

-- Frames of these groups are handed to these cores, one after the other; those in `left` are the moves of groups that
-- had no frame.
abbrev pub AreHanded : (cores : ℕ) → List Table → List GroupMove → (groups handed : List ℕ) → (left : List GroupMove)
    → List Table → Type 0
AreHanded cores tables moves [] [] left now = (left ≡ moves) × (now ≡ tables)
AreHanded cores tables moves [] (c ∷ cs) left now = ⊥
AreHanded cores tables moves (g ∷ gs) [] left now = ⊥
AreHanded cores tables moves (g ∷ gs) (c ∷ cs) left now =
    (next : List Table)
    × IsHanded cores tables moves g c next
    × AreHanded cores next (moves_but g moves) gs cs left now

-- The frames of a tick are handed out. A group moves after its first frame, or after all frames where it has none.
pub record AreHandedOut (cores : ℕ) (tables : List Table) (moves : List GroupMove) (groups handed : List ℕ)
    (now : List Table) : Type 0 where
  pub left : List GroupMove
  pub last : List Table
  pub frames : AreHanded cores tables moves groups handed left last
  pub moved : AreMoved cores last left now
