-- Notes posted one after the other.
use Rattle.std.proofs.Common.{◌≡◌, ℕ, List, [], ◌∷◌, ◌++◌, subst, inl, inr, refl}
use Rattle.std.specs.Prelude.{Result, Ok, Err, OnOk, OnErr}
use Rattle.crossbeam_queue.specs.Fifo.{Held}
use Rattle.context_queue.specs.Notes.{Sender, HoldsPosts}
use Rattle.context_queue.specs.declared.note.Note.{Note}
use Rattle.core_worker.specs.Posting.{ArePosted}

pub posted_by : {A E : Type 0} (room : ℕ) (n : Note) (s t : Sender) (x : Result A E)
    → OnOk x (t ≡ record s { posts = s.posts ++ n ∷ [] }) → OnErr x (Held room (HoldsPosts s)) → OnErr x (t ≡ s)
    → ArePosted room (n ∷ []) s t
posted_by room n s t (Ok a) posted full err = (t, inl posted, refl)
posted_by room n s t (Err e) posted full err = (t, inr (err, full), refl)

pub both_posted : (room : ℕ) (ns ms : List Note) (s m t : Sender) → ArePosted room ns s m → ArePosted room ms m t
    → ArePosted room (ns ++ ms) s t
both_posted room [] ms s m t e more = subst (λ (x : Sender). ArePosted room ms x t) e more
both_posted room (n ∷ ns) ms s m t (x, one, rest) more = (x, one, both_posted room ns ms x m t rest more)
