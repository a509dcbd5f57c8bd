-- What is posted into a queue and taken from it.
use Rattle.std.specs.Prelude.{◌≡◌, ℕ, ◌==◌, if◌then◌else◌, List, [], ◌∷◌, ◌++◌}
use Rattle.atomic_table.specs.Seated.{TableId}
use Rattle.context_queue.specs.declared.note.Note.{Note}
use Rattle.context_queue.specs.declared.note.Letter.{Letter}

-- the notes of one sender among these letters, in their order
abbrev pub notes_of : (sender : ℕ) → List Letter → List Note
notes_of sender [] = []
notes_of sender (x ∷ xs) = if x.from == sender then x.note ∷ notes_of sender xs else notes_of sender xs

-- One queue, by its line, and how many notes it holds at most.
pub record Place : Type 0 where
  pub line : TableId
  pub room : ℕ

-- What a sender knows: its queue, its number, and the notes that it posted, but for those that were answered `Full`.
pub record Sender : Type 0 where
  pub line : TableId
  pub number : ℕ
  pub posts : List Note

-- What the receiver knows: its queue, how many senders were made, and what it has taken.
pub record Receiver : Type 0 where
  pub line : TableId
  pub senders : ℕ
  pub taken : List Letter

-- the receiver has taken this note, of some sender, and else nothing changed
abbrev pub HasTaken : Note → (before after : Receiver) → Type 0
HasTaken n before after =
    (from : ℕ) × (after ≡ record before { taken = before.taken ++ record { from = from; note = n } ∷ [] })

-- The queue held these letters, behind others that were taken before; those of the sender are what it had posted.
abbrev pub HoldsPosts : Sender → List Letter → Type 0
HoldsPosts s waiting = (taken : List Letter) × (notes_of s.number (taken ++ waiting) ≡ s.posts)

-- The queue held these letters, behind those that the receiver had taken; together they are what was posted.
abbrev pub HoldsRest : Receiver → List Letter → Type 0
HoldsRest r waiting =
    (posts : ℕ → List Note) × ((sender : ℕ) → notes_of sender (r.taken ++ waiting) ≡ posts sender)
