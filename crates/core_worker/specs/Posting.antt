-- Notes that are posted one after the other, and dropped where the queue is full.
use Rattle.std.specs.Prelude.{◌≡◌, ℕ, List, [], ◌∷◌, ◌++◌, ◌⊎◌}
use Rattle.crossbeam_queue.specs.Fifo.{Held}
use Rattle.context_queue.specs.Notes.{Sender, HoldsPosts}
use Rattle.context_queue.specs.declared.note.Note.{Note}

-- The note was posted, or it was dropped: the queue was full at some moment.
abbrev pub IsPosted : (room : ℕ) → Note → (before after : Sender) → Type 0
IsPosted room n s t = (t ≡ record s { posts = s.posts ++ n ∷ [] }) ⊎ ((t ≡ s) × Held room (HoldsPosts s))

-- So it was with each of these, in their order, and nothing else was posted.
abbrev pub ArePosted : (room : ℕ) → List Note → (before after : Sender) → Type 0
ArePosted room [] s t = t ≡ s
ArePosted room (n ∷ ns) s t = (m : Sender) × IsPosted room n s m × ArePosted room ns m t
