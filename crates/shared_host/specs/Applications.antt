-- An application that is added to a host.
use Rattle.std.specs.Prelude.{◌≡◌, ℕ, zero, suc, List, [], ◌∷◌, ◌++◌, ◌⊎◌}
use Rattle.atomic_table.specs.Seated.{TableId}
use Rattle.context_queue.specs.Notes.{Place, Receiver}
use Rattle.flow_lock.specs.Passes.{Seen, right}
use Rattle.core_worker.specs.Workers.{Common, Worker, with_senders}
use Rattle.core_worker.specs.declared.senders.AppSender.{AppSender}
use Rattle.libtas_sockets.specs.Apps.{Application}
use Rattle.shared_host.specs.Cores.{queue_room}

-- the pass that is split off from this one
abbrev pub split_from : Seen → Seen
split_from s = record s { view = right s.view }

-- an application without sockets
abbrev pub new_app : (number : ℕ) → Seen → Receiver → Application
new_app number pass notes =
    record { number = number; pass = pass; notes = notes; begun = []; sockets = [] }

-- its queue
abbrev pub queue_at : TableId → Place
queue_at line = record { line = line; room = queue_room }

abbrev pub with_queue : (app : ℕ) → (line : TableId) → Common → Common
with_queue app line c = record c { queues = c.queues ++ record { app = app; queue = queue_at line } ∷ [] }

-- the queue's sender with this number, which has posted nothing
abbrev pub new_sender : (app : ℕ) → (line : TableId) → (number : ℕ) → AppSender
new_sender app line number = record { app = app; sender = record { line = line; number = number; posts = [] } }

abbrev pub with_sender : AppSender → Worker → Worker
with_sender s w = with_senders (w.senders ++ s ∷ []) w

-- The first so many workers have a sender more, for this application, numbered one after the other. All else stays.
abbrev pub AreGiven : (app : ℕ) → (line : TableId) → (first count : ℕ) → (before after : List Worker) → Type 0
AreGiven app line first zero ws vs = vs ≡ ws
AreGiven app line first (suc count) (w ∷ ws) (v ∷ vs) =
    (v ≡ with_sender (new_sender app line first) w) × AreGiven app line (suc first) count ws vs
AreGiven app line first (suc count) ws vs = ⊥

-- Memory was wanting: there is no queue, and no worker has a sender more; or the application has a queue, and the first
-- so many workers a sender for it. All else stays.
abbrev pub IsPartAdded : (app : ℕ) → (before after : Common) → (before after : List Worker) → Type 0
IsPartAdded app c d ws vs =
    ((d ≡ c) × (vs ≡ ws))
    ⊎ ((line : TableId) × (count : ℕ) × (d ≡ with_queue app line c) × AreGiven app line 0 count ws vs)
