-- A flow that a peer's SYN opens.
use Rattle.tas_num.specs.declared.seq.Seq.{Seq}
use Rattle.std.specs.Prelude.{◌≡◌, ℕ, false, [], ◌∷◌, ◌++◌, ◌⊎◌}
use Rattle.segment_fields.specs.declared.segment.Segment.{Segment}
use Rattle.tas_model.specs.declared.entry.FlowId.{FlowId}
use Rattle.tas_model.specs.declared.entry.FourTuple.{FourTuple}
use Rattle.tas_model.specs.declared.entry.FrameId.{FrameId}
use Rattle.flow_state.specs.Calls.{seg_of}
use Rattle.flow_state.specs.Flow.{first_passive}
use Rattle.flow_index.specs.Changes.{Writing, AnswerAlike, Begins}
use Rattle.flow_index.specs.declared.change.Change.TheVariants.{Put}
use Rattle.flow_lock.specs.Passes.{Seen}
use Rattle.flow_lock.specs.Steps.{opened}
use Rattle.flow_lock.specs.declared.view.History.{History}
use Rattle.slow_handshake.specs.Openings.{Openings, next_after}
use Rattle.core_worker.specs.Frames.{tuple_of}
use Rattle.core_worker.specs.Kicks.{kick_of, one_kick}
use Rattle.slow_worker.specs.Workers.{Sight}

-- a first number was given, and the next one in turn is not given any more
abbrev pub numbered : Openings → Openings
numbered o = record o { next_iss = next_after o.next_iss }

-- and the flow waits at its port
abbrev pub with_opened : FlowId → (port : ℕ) → Openings → Openings
with_opened id port o =
    record (numbered o) { flows = o.flows ++ record { id = id; port = port; ready = false } ∷ [] }

-- the history that the SYN begins, with this first number
abbrev pub first_history : (tick : ℕ) → (iss : Seq) → FrameId → Segment → Openings → History
first_history tick iss frame seg o = record {
  tuple = tuple_of seg;
  params = o.params;
  entries = first_passive tick frame iss (seg_of seg) ∷ [];
}

-- the slow path's pass after it opened a flow
abbrev pub with_open : FlowId → History → Seen → Seen
with_open id h p = record p { view = opened id h p.view }

-- The change is published, with all that was pending.
pub record IsIndexed (t : FourTuple) (id : FlowId) (x y : Writing) : Type 0 where
  pub later : Begins x.published y.published
  pub shown : AnswerAlike y.published (x.published ++ (x.pending ++ Put t id ∷ []))
  pub pending : y.pending ≡ []
  pub left : y.left ≡ x.left

-- The next flow was opened for the SYN, with this first number, and all know of it. It is kicked, where its answer may
-- go.
pub record IsOpened (tick : ℕ) (iss : Seq) (frame : FrameId) (seg : Segment) (id : FlowId) (s n : Sight)
    : Type 0 where
  pub indexed : IsIndexed (tuple_of seg) id s.index n.index
  pub after : n ≡ record {
    path = with_opened id seg.dport s.path;
    pass = with_open id (first_history tick iss frame seg s.path) s.pass;
    pins = s.pins ++ id ∷ [];
    doomed = s.doomed;
    flows = s.flows ++ record { tuple = tuple_of seg; id = id } ∷ [];
    index = n.index;
    log = s.log;
    senders = s.senders;
    kicks = s.kicks ++ one_kick (kick_of id (first_history tick iss frame seg s.path));
  }

-- What became of the index where memory was wanting: nothing, or the change is pending, or it is published. The id is
-- then that of no flow, until one is opened in its slot.
abbrev pub IsTouched : FourTuple → FlowId → Writing → Writing → Type 0
IsTouched t id x y =
    (y ≡ x) ⊎ (y ≡ record x { pending = x.pending ++ Put t id ∷ [] }) ⊎ IsIndexed t id x y

-- Memory was wanting, and no flow was opened. A first number may have been given.
pub record IsUnopened (seg : Segment) (id : FlowId) (s n : Sight) : Type 0 where
  pub path : (n.path ≡ s.path) ⊎ (n.path ≡ numbered s.path)
  pub indexed : IsTouched (tuple_of seg) id s.index n.index
  pub after : n ≡ record s { path = n.path; index = n.index }

-- ----- a flow that an application opened
-- The flow stands in the list and in the index.
pub record IsKnown (t : FourTuple) (id : FlowId) (s n : Sight) : Type 0 where
  pub indexed : IsIndexed t id s.index n.index
  pub after : n ≡ record s { flows = s.flows ++ record { tuple = t; id = id } ∷ []; index = n.index }

-- memory was wanting
pub record IsUnknown (t : FourTuple) (id : FlowId) (s n : Sight) : Type 0 where
  pub indexed : IsTouched t id s.index n.index
  pub after : n ≡ record s { index = n.index }
