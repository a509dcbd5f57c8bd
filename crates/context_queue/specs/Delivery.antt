-- What the queue keeps at every moment, and what its steps tell.
use Rattle.std.specs.Prelude.{◌≡◌, ℕ, ◌≤◌, true, false, List, [], ◌∷◌, ◌++◌}
use mathlib.Core.Option.{Option, none, some}
use lib.ListN.{get_elem?}
use Rattle.context_queue.specs.Notes.{notes_of}
use Rattle.context_queue.specs.declared.note.Note.{Note}
use Rattle.context_queue.specs.declared.note.Letter.{Letter}
use Rattle.context_queue.specs.declared.delivery.View.{View}

abbrev pub receiver : (taken : List Letter) → (senders : ℕ) → View
receiver taken senders =
    record { sends = false; number = 0; posts = []; receives = true; taken = taken; senders = senders }

abbrev pub sender : (number : ℕ) → (posts : List Note) → View
sender number posts = record { sends = true; number = number; posts = posts; receives = false; taken = []; senders = 0 }

-- each sender has one pass, which knows what was posted
abbrev pub FitsSender : (seat : ℕ → Option ℕ) → (posts : ℕ → List Note) → (pass : ℕ) → View → Type 0
FitsSender seat posts pass v = v.sends ≡ true → (seat v.number ≡ some pass) × (v.posts ≡ posts v.number)

-- the one receiver knows what it took, and that later senders have posted nothing
abbrev pub FitsReceiver : (reader : ℕ) → (seat : ℕ → Option ℕ) → (ℕ → List Note) → List Letter → ℕ → View → Type 0
FitsReceiver reader seat posts taken pass v =
    v.receives ≡ true
    → (pass ≡ reader) × (v.taken ≡ taken) × ((p : ℕ) → v.senders ≤ p → (seat p ≡ none) × (posts p ≡ []))

-- What was taken of each sender, and then what waits of it, is what it posted, in its order.
abbrev pub Delivers : (waiting : List Letter) → List View → Type 0
Delivers waiting views =
    (reader : ℕ) × (seat : ℕ → Option ℕ) × (posts : ℕ → List Note) × (taken : List Letter)
    × ((p : ℕ) → notes_of p (taken ++ waiting) ≡ posts p)
    × ((pass : ℕ) (v : View) → get_elem? views pass ≡ some v
    → FitsSender seat posts pass v × FitsReceiver reader seat posts taken pass v)

-- this is what the receiver, or a sender, knows among these
abbrev pub IsReceiver : List View → View → Type 0
IsReceiver views r = (pass : ℕ) × (get_elem? views pass ≡ some r) × (r.receives ≡ true)

abbrev pub IsSender : List View → View → Type 0
IsSender views s = (pass : ℕ) × (get_elem? views pass ≡ some s) × (s.sends ≡ true)

abbrev pub posted : View → Letter → View → Type 0
posted v x w = w ≡ sender v.number (v.posts ++ x.note ∷ [])

abbrev pub drained : View → Letter → View → Type 0
drained v x w = w ≡ receiver (v.taken ++ x ∷ []) v.senders

-- what a sender sees in a full queue, and the receiver in an empty one
abbrev pub Sees : View → List Letter → Type 0
Sees v waiting = (taken : List Letter) × (notes_of v.number (taken ++ waiting) ≡ v.posts)

abbrev pub HasAll : View → List Letter → Type 0
HasAll v waiting = (posts : ℕ → List Note) × ((p : ℕ) → notes_of p (v.taken ++ waiting) ≡ posts p)
