-- A turn of a core's worker: the frames that were handed to it, one after the other, and then its kicks.
use Rattle.std.specs.Prelude.{◌≡◌, ℕ, zero, suc, ◌+◌, ◌≤◌, Bool, true}
use Rattle.std.specs.Prelude.{false, ◌==◌, ◌&&◌, nat_lt, if◌then◌else◌, List, []}
use Rattle.std.specs.Prelude.{◌∷◌, ◌++◌, length, slice_get, Option, Some, None, ◌⊎◌}
use Rattle.crossbeam_queue.specs.Fifo.{Held}
use Rattle.tas_model.specs.declared.entry.FlowId.{FlowId}
use Rattle.flow_lock.specs.Claims.{flow_at}
use Rattle.flow_lock.specs.Passes.{Seen}
use Rattle.flow_lock.specs.declared.view.History.{History}
use Rattle.flow_lock.specs.declared.view.View.{View}
use Rattle.context_queue.specs.Notes.{Place, Receiver, HasTaken, HoldsRest}
use Rattle.context_queue.specs.declared.note.Note.{Note}
use Rattle.core_worker.specs.Workers.{Common, Worker, Sight, sight_of, with_sight}
use Rattle.core_worker.specs.Handling.{IsHandled, IsUnhandled, setting_of}
use Rattle.core_worker.specs.Sending.{IsSent, IsPartSent, IsAllSent}
use Rattle.core_worker.specs.declared.frames.Frame.{Frame}
use Rattle.core_worker.specs.declared.frames.PassedFrame.{PassedFrame}
use Rattle.core_worker.specs.declared.frames.Handled.{Handled}
use Rattle.core_worker.specs.declared.frames.Handled.TheVariants as answers
use Rattle.core_worker.specs.declared.frames.Passed.{Passed}
use Rattle.core_worker.specs.declared.frames.Passed.TheVariants as passed

-- ----- frames
-- another pass stood in the way
abbrev pub is_deferred : Passed → Bool
is_deferred (passed.Busy x) = true
is_deferred (passed.Moved x y) = true
is_deferred p = false

-- a frame that was passed on, as a list of one
abbrev pub one_passed : Frame → Passed → List PassedFrame
one_passed f p = record { frame = f; passed = p } ∷ []

-- what a frame adds to the deferred ones, and to the exceptions
abbrev pub deferred_by : Frame → Handled → List PassedFrame
deferred_by f (answers.Passed p) = if is_deferred p then one_passed f p else []
deferred_by f h = []

abbrev pub exceptions_by : Frame → Handled → List PassedFrame
exceptions_by f (answers.Passed p) = if is_deferred p then [] else one_passed f p
exceptions_by f h = []

-- the frame left the list of those to be handled, and stands where its answer says
abbrev pub placed : Frame → Handled → (rest : List Frame) → Worker → Worker
placed f h rest w = record w {
  frames = rest;
  deferred = w.deferred ++ deferred_by f h;
  exceptions = w.exceptions ++ exceptions_by f h;
}

-- The first frame of the list was handled.
pub record IsFrameDone (c : Common) (tick : ℕ) (f : Frame) (v n : Worker) : Type 0 where
  pub rest : List Frame
  pub first : v.frames ≡ f ∷ rest
  pub answer : Handled
  pub seen : Sight
  pub handled : IsHandled (setting_of c tick v) f.id f.packet (sight_of v) seen answer
  pub after : n ≡ placed f answer rest (with_sight seen v)

abbrev pub IsFirstDone : Common → (tick : ℕ) → Worker → Worker → Type 0
IsFirstDone c tick v n = (f : Frame) × IsFrameDone c tick f v n

-- these frames were handled, one after the other
abbrev pub AreFramesDone : Common → (tick : ℕ) → List Frame → Worker → Worker → Type 0
AreFramesDone c tick [] v w = w ≡ v
AreFramesDone c tick (f ∷ fs) v w = (m : Worker) × IsFrameDone c tick f v m × AreFramesDone c tick fs m w

-- Memory was wanting before the first frame was looked at, or while it was handled. It stays in the list, and made no
-- entry and no line.
abbrev pub IsFrameLeft : Common → (tick : ℕ) → Worker → Worker → Type 0
IsFrameLeft c tick v n =
    (n ≡ v)
    ⊎ ((f : Frame) × (rest : List Frame) × (v.frames ≡ f ∷ rest)
    × (seen : Sight) × IsUnhandled (setting_of c tick v) f.packet (sight_of v) seen × (n ≡ with_sight seen v))

-- the frames before those that are left were handled
abbrev pub AreFramesLeft : Common → (tick : ℕ) → Worker → Worker → Type 0
AreFramesLeft c tick v w =
    (done : List Frame) × (m : Worker) × AreFramesDone c tick done v m × IsFrameLeft c tick m w
    × (v.frames ≡ done ++ w.frames)

-- ----- kicks
-- the flow that a note wants to be looked at, where its slot is one of the table's
abbrev pub kicked_in : (slots : ℕ) → Note → Option FlowId
kicked_in slots note =
    if note.kind == 4 && nat_lt note.slot slots then Some (flow_at note.slot note.generation) else None

abbrev pub IsKicked : Option FlowId → (sent : History → History → Type 0) → View → View → Type 0
IsKicked None sent v w = w ≡ v
IsKicked (Some id) sent v w = IsSent id sent v w

-- A kick was taken out of the core's queue, and so much sent of its flow.
pub record IsKickDone (c : Common) (sent : History → History → Type 0) (v n : Worker) : Type 0 where
  pub note : Note
  pub kicks : Receiver
  pub taken : HasTaken note v.kicks kicks
  pub pass : Seen
  pub table : pass.table ≡ v.pass.table
  pub kicked : IsKicked (kicked_in c.table.slots note) sent v.pass.view pass.view
  pub after : n ≡ record v { pass = pass; kicks = kicks }

-- so many kicks were taken, one after the other, and all that might go was sent
abbrev pub AreKicksDone : Common → (tick count : ℕ) → Worker → Worker → Type 0
AreKicksDone c tick zero v w = w ≡ v
AreKicksDone c tick (suc n) v w =
    (m : Worker) × IsKickDone c (IsAllSent v.core tick) v m × AreKicksDone c tick n m w

abbrev pub AreAllKicksDone : Common → (tick : ℕ) → Worker → Worker → Type 0
AreAllKicksDone c tick v w = (count : ℕ) × AreKicksDone c tick count v w

-- after these kicks memory was wanting at one, of which some may have been sent
abbrev pub AreKicksLeft : Common → (tick : ℕ) → Worker → Worker → Type 0
AreKicksLeft c tick v w =
    (count : ℕ) × (m : Worker) × AreKicksDone c tick count v m × IsKickDone c (IsPartSent v.core tick) m w

-- how many kicks were taken since
abbrev pub HasTakenMore : (count : ℕ) → (before after : Receiver) → Type 0
HasTakenMore count r q = length q.taken ≡ length r.taken + count

-- The core's queue was empty at some moment, behind the kicks that were taken; or as many were taken as it has room
-- for, and those that came meanwhile wait.
abbrev pub IsDrained : Common → (core : ℕ) → (before after : Receiver) → Type 0
IsDrained c core r q =
    Held 0 (HoldsRest q)
    ⊎ ((place : Place) × (slice_get c.kicks core ≡ Some place) × HasTakenMore place.room r q)

-- no more kicks were taken than the core's queue has room for
abbrev pub IsBounded : Common → (core : ℕ) → (before after : Receiver) → Type 0
IsBounded c core r q =
    (place : Place) × (slice_get c.kicks core ≡ Some place) × (length q.taken ≤ length r.taken + place.room)

-- ----- turns
-- All frames were handled, and then kicks.
abbrev pub IsTurn : Common → (tick : ℕ) → Worker → Worker → Type 0
IsTurn c tick v w =
    (m : Worker) × AreFramesDone c tick v.frames v m × AreAllKicksDone c tick m w

-- Memory was wanting at a frame, or at a kick. What was done stands.
abbrev pub IsTurnStopped : Common → (tick : ℕ) → Worker → Worker → Type 0
IsTurnStopped c tick v w =
    AreFramesLeft c tick v w ⊎ ((m : Worker) × AreFramesDone c tick v.frames v m × AreKicksLeft c tick m w)
