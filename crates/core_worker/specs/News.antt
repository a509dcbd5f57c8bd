-- What an application is told of its flow, where an entry changed it.
use Rattle.std.specs.Prelude.{ℕ, Bool, true, false, not, ◌&&◌, ◌||◌, nat_lt, length, List, [], ◌∷◌, ◌++◌}
use Rattle.tas_model.specs.declared.entry.FlowId.{FlowId}
use Rattle.tas_model.specs.Endpoint.{Endpoint, send_room, is_closed}
use Rattle.context_queue.specs.declared.note.Note.{Note}
use Rattle.core_worker.specs.declared.news.Progress.{Progress}
use Rattle.core_worker.specs.declared.news.News.{News}

-- how far a flow is, as far as its application can see
abbrev pub progress_of : Endpoint → Progress
progress_of e =
    record { received = length e.rx.got; ended = e.rx.ended; room = send_room e; closed = is_closed e }

-- Bytes came in order, or the peer's end; there is more room to send; the flow closed.
abbrev pub news_between : (before after : Progress) → News
news_between p q = record {
  readable = nat_lt p.received q.received || (not p.ended && q.ended);
  writable = nat_lt p.room q.room;
  closed = not p.closed && q.closed;
}

abbrev pub news_of : (before after : Endpoint) → News
news_of e f = news_between (progress_of e) (progress_of f)

-- a note of this kind, where there is such news
abbrev pub note_where : Bool → (kind : ℕ) → FlowId → List Note
note_where true kind id = record { kind = kind; slot = id.slot; generation = id.generation } ∷ []
note_where false kind id = []

-- the notes that tell it, each kind once at most and in this order
abbrev pub notes_about : FlowId → News → List Note
notes_about id n = note_where n.readable 1 id ++ (note_where n.writable 2 id ++ note_where n.closed 3 id)
