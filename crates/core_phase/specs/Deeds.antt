-- What a core's turn puts into the order of deeds: of each frame that a flow received one deed, on the history that was
-- there; and what was sent at kicks. And where the other frames stand then.
use Rattle.std.specs.Prelude.{◌≡◌, ℕ, Bool, true, List, [], ◌∷◌, ◌++◌, Some, None}
use Rattle.segment_fields.specs.declared.segment.Segment.{Segment}
use Rattle.segment_fields.specs.declared.segment.Refused.{Refused}
use Rattle.segment_fields.specs.Refusals.{number_of}
use Rattle.segment_fields.specs.Text.{IsText, refusal}
use Rattle.tas_model.specs.declared.entry.Caller.TheVariants.{Core}
use Rattle.tas_model.specs.declared.entry.Call.TheVariants as calls
use Rattle.tas_model.specs.Endpoint.{phase}
use Rattle.tas_model.specs.ApplicationCalls.{column}
use Rattle.flow_state.specs.Calls.{seg_of}
use Rattle.flow_lock.specs.Histories.{longer}
use Rattle.flow_lock.specs.declared.view.Deed.{Deed}
use Rattle.host_rounds.specs.Lists.{Each}
use Rattle.host_rounds.specs.declared.log.LogLine.{LogLine}
use Rattle.host_rounds.specs.declared.log.LogEvent.TheVariants as events
use Rattle.host_books.specs.Indexes.{endpoint_of}
use Rattle.host_books.specs.Tries.{Adds}
use Rattle.fast_rx.specs.Exceptions.{exception}
use Rattle.core_worker.specs.Frames.{tuple_of}
use Rattle.core_worker.specs.Sending.{may_go}
use Rattle.core_worker.specs.Turns.{deferred_by, exceptions_by}
use Rattle.core_worker.specs.Workers.{Worker}
use Rattle.core_worker.specs.declared.frames.Frame.{Frame}
use Rattle.core_worker.specs.declared.frames.Handled.{Handled}
use Rattle.core_worker.specs.declared.frames.Handled.TheVariants as handled

-- ----- one deed
-- The deed is that of this frame by this core: the packet breaks no rule of reading and spells a segment of the flow's
-- own, which is for the fast path, and the entry is the one that it makes of the legal history before.
pub record IsRx (check : Bool) (core tick : ℕ) (f : Frame) (d : Deed) : Type 0 where
  pub reads : refusal check f.packet ≡ None
  pub seg : Segment
  pub text : IsText f.packet seg
  pub own : d.before.tuple ≡ tuple_of seg
  pub fast : exception (phase (endpoint_of d.before)) seg ≡ None
  pub adds : Adds (Core core) tick (calls.Rx f.id (seg_of seg)) [] d

-- The deed is a segment that this core sends: one may go, and the entry is the one that its Emit makes.
pub record IsSend (core tick : ℕ) (d : Deed) : Type 0 where
  pub goes : may_go d.before ≡ true
  pub adds : Adds (Core core) tick calls.Emit [] d

-- The endpoint is opening, running or over as before.
abbrev pub KeepsColumn : Deed → Type 0
KeepsColumn d = column (endpoint_of (longer d.before (d.entry ∷ []))) ≡ column (endpoint_of d.before)

-- ----- frames
-- What a frame with this answer put into the turn. One that was refused breaks the rule of reading that was named, and
-- one that was passed on breaks none.
abbrev pub IsPutIn : (check : Bool) (core tick : ℕ) → Frame → Handled → List Deed → Type 0
IsPutIn check core tick f (handled.Entered id) ds =
    (d : Deed) × (ds ≡ d ∷ []) × (d.flow ≡ id) × IsRx check core tick f d
IsPutIn check core tick f (handled.Refused n) ds =
    (ds ≡ []) × ((r : Refused) × (refusal check f.packet ≡ Some r) × (n ≡ number_of r))
IsPutIn check core tick f (handled.Passed p) ds = (ds ≡ []) × (refusal check f.packet ≡ None)

-- what frames with these answers put into it, one after the other
abbrev pub ArePutIn : (check : Bool) (core tick : ℕ) → List Frame → List Handled → List Deed → Type 0
ArePutIn check core tick [] [] ds = ds ≡ []
ArePutIn check core tick [] (h ∷ hs) ds = ⊥
ArePutIn check core tick (f ∷ fs) [] ds = ⊥
ArePutIn check core tick (f ∷ fs) (h ∷ hs) ds =
    (a b : List Deed) × (ds ≡ a ++ b) × IsPutIn check core tick f h a × ArePutIn check core tick fs hs b

-- ----- where frames stand then
-- what these frames with these answers make, one after the other
abbrev pub gathered : {X : Type 0} → (Frame → Handled → List X) → List Frame → List Handled → List X
gathered g [] hs = []
gathered g (f ∷ fs) [] = []
gathered g (f ∷ fs) (h ∷ hs) = g f h ++ gathered g fs hs

-- the line of a frame that was refused, as a list of one, or none
abbrev pub lines_by : (tick : ℕ) → Frame → Handled → List LogLine
lines_by tick f (handled.Refused n) = record { tick = tick; event = events.Refused f.id n } ∷ []
lines_by tick f h = []

-- Frames that were passed on stand in the worker's lists that are for them, lines of those that were refused in its
-- log, and none is left to be handled.
abbrev pub AreLeft : (tick : ℕ) → List Frame → List Handled → Worker → Worker → Type 0
AreLeft tick fs hs v w =
    (w.deferred ≡ v.deferred ++ gathered deferred_by fs hs)
    × (w.exceptions ≡ v.exceptions ++ gathered exceptions_by fs hs)
    × (w.log ≡ v.log ++ gathered (lines_by tick) fs hs)
    × (w.frames ≡ [])

-- ----- a turn
-- What a worker's turn put into the order: the frames of its list that were entered, and then what was sent at kicks.
-- The other frames were left.
pub record IsTurnOf (tick : ℕ) (v w : Worker) (ds : List Deed) : Type 0 where
  pub answers : List Handled
  pub entered : List Deed
  pub sent : List Deed
  pub put : ArePutIn v.check_sums v.core tick v.frames answers entered
  pub left : AreLeft tick v.frames answers v w
  pub sends : Each (IsSend v.core tick) sent
  pub all : ds ≡ entered ++ sent
