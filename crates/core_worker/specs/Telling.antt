-- Which notes tell an application what became of its flow, and who posts them.
use Rattle.std.specs.Prelude.{◌≡◌, ℕ, ◌==◌, Bool, true, false, List, [], ◌∷◌, Option, Some, None, slice_get}
use Rattle.std.specs.Prelude.{position, slice_set}
use Rattle.tas_model.specs.declared.entry.FlowId.{FlowId}
use Rattle.tas_model.specs.LegalHistory.{replay}
use Rattle.flow_state.specs.Application.{application_of}
use Rattle.flow_lock.specs.declared.view.Held.{Held}
use Rattle.flow_lock.specs.declared.view.History.{History}
use Rattle.context_queue.specs.Notes.{Place, Sender}
use Rattle.context_queue.specs.declared.note.Note.{Note}
use Rattle.host_rounds.specs.Lists.{Each}
use Rattle.core_worker.specs.News.{news_of, notes_about}
use Rattle.core_worker.specs.Posting.{ArePosted}
use Rattle.core_worker.specs.declared.news.News.{News}
use Rattle.core_worker.specs.declared.shared.AppQueue.{AppQueue}
use Rattle.core_worker.specs.declared.senders.AppSender.{AppSender}
use Rattle.core_worker.specs.declared.senders.Teller.{Teller}
use Rattle.core_worker.specs.declared.senders.Teller.TheVariants as tellers

-- ----- queues and senders
abbrev pub app_with : AppQueue → ℕ
app_with q = q.app

abbrev pub is_queue_of : ℕ → AppQueue → Bool
is_queue_of app q = q.app == app

-- the queue of the application with this number, where one was added
abbrev pub queue_of : ℕ → List AppQueue → Option Place
queue_of app [] = None
queue_of app (q ∷ qs) = elim (is_queue_of app q) [ true ↦ Some q.queue | false ↦ queue_of app qs ]

-- a sender posts to its application's queue
abbrev pub IsOwnSender : List AppQueue → AppSender → Type 0
IsOwnSender queues s = (place : Place) × (queue_of s.app queues ≡ Some place) × (s.sender.line ≡ place.line)

abbrev pub AreOwnSenders : List AppQueue → List AppSender → Type 0
AreOwnSenders queues senders = Each (IsOwnSender queues) senders

-- the records that who tells an application holds
abbrev pub held_by : Teller → List Held
held_by (tellers.Worker pass) = pass.now.view.held
held_by (tellers.Slow pass) = pass.now.view.held

-- ----- notes
-- what an entry brought, by the history before and after it
abbrev pub news_in : (before after : History) → News
news_in h k = news_of (replay h.params h.entries) (replay k.params k.entries)

-- The sender at this place posted the notes to its application's queue, and no other posted any.
abbrev pub IsToldAt : Option ℕ → List AppQueue → List Note → (before after : List AppSender) → Type 0
IsToldAt None queues notes ss ts = ts ≡ ss
IsToldAt (Some i) queues notes ss ts =
    (s : AppSender) × (place : Place) × (t : Sender)
    × (slice_get ss i ≡ Some s)
    × (queue_of s.app queues ≡ Some place)
    × ArePosted place.room notes s.sender t
    × (ts ≡ slice_set ss i (record s { sender = t }))

abbrev pub app_of : AppSender → ℕ
app_of s = s.app

abbrev pub is_sender_for : ℕ → AppSender → Bool
is_sender_for app s = s.app == app

-- These notes were told to the application, where there is one and a sender for it.
abbrev pub IsTold : Option ℕ → List AppQueue → List Note → (before after : List AppSender) → Type 0
IsTold None queues notes ss ts = ts ≡ ss
IsTold (Some app) queues notes ss ts = IsToldAt (position (is_sender_for app) ss) queues notes ss ts

-- The flow's application was told what came between these histories, and no other was told anything.
abbrev pub IsAppTold : List AppQueue → FlowId → (h k : History) → (before after : List AppSender) → Type 0
IsAppTold queues id h k ss ts = IsTold (application_of k.entries) queues (notes_about id (news_in h k)) ss ts
