-- What a tick does with all flows of the slow path.
use Rattle.std.specs.Prelude.{◌≡◌, ℕ, suc, ◌+◌, Bool, true, false, List, [], ◌∷◌, ◌++◌, ◌⊎◌, take, drop}
use Rattle.std.specs.Prelude.{length, slice_get, Some}
use Rattle.tas_model.specs.Segments.{one_if}
use Rattle.tas_model.specs.declared.entry.FlowId.{FlowId}
use Rattle.flow_state.specs.Flow.{Flow}
use Rattle.flow_index.specs.declared.change.Change.TheVariants.{Remove}
use Rattle.flow_lock.specs.declared.view.View.{View}
use Rattle.flow_lock.specs.declared.word.Word.{Word}
use Rattle.app_reaper.specs.OneCall.{history, IsOwn, IsUse, IsCallRefused}
use Rattle.app_reaper.specs.Sweeping.{IsFiling, IsSweep}
use Rattle.app_reaper.specs.declared.one_call.CallFault.TheVariants.{Busy, OutOfMemory}
use Rattle.app_reaper.specs.declared.sweeping.Swept.{Swept}
use Rattle.app_reaper.specs.declared.sweeping.Swept.TheVariants.{Freed, Pinned}
use Rattle.core_worker.specs.Kicks.{kick_of, one_kick}
use Rattle.flow_clock.specs.Histories.{is_over, timed_by}
use Rattle.flow_clock.specs.Ledgers.{Ledger, without, without_closed}

-- ----- one flow
-- a flow that others have pins of is among the doomed ones
abbrev pub doomed_with : FlowId → Swept → List FlowId → List FlowId
doomed_with f Freed doomed = doomed
doomed_with f (Pinned n pin) doomed = doomed ++ f ∷ []

-- A closed flow was freed and its record filed, or it is among the doomed ones.
pub record IsSwept (f : FlowId) (v w : View) (filed filed' : List Flow) (doomed doomed' : List FlowId) : Type 0 where
  pub swept : Swept
  pub sweep : IsSweep f v w swept
  pub filing : IsFiling f v filed filed' swept
  pub waiting : doomed' ≡ doomed_with f swept doomed

-- Another pass held its record, and nothing was done: it has no Tick in this tick, neither now nor later, and no kick,
-- and its pin stays at its place.
pub record WasBusy (f : FlowId) (l m : Ledger) : Type 0 where
  pub word : Word
  pub busy : IsCallRefused f l.view m.view (Busy word)
  pub rest : m ≡ record l { view = m.view; pins = l.pins ++ f ∷ [] }

-- It wasn't closed, and its history grew by exactly its Tick, and its Control where that was due. It is kicked, where a
-- segment may then go, and where its tick closed it, it waits for no Accept.
pub record WasTimed (tick : ℕ) (f : FlowId) (l m : Ledger) : Type 0 where
  pub flow : Flow
  pub own : IsOwn f l.view flow
  pub not_over : is_over (history flow) ≡ false
  pub grown : IsUse f flow (timed_by tick (history flow)) l.view m.view
  pub kicked : m.kicks ≡ l.kicks ++ one_kick (kick_of f (timed_by tick (history flow)))
  pub told : m.path ≡ without_closed (is_over (timed_by tick (history flow))) f l.path
  pub rest : m ≡ record l { view = m.view; pins = l.pins ++ f ∷ []; kicks = m.kicks; path = m.path }

-- It was closed: it left the index, the openings and the list, and was swept. It is not kicked.
pub record WasClosed (f : FlowId) (l m : Ledger) : Type 0 where
  pub flow : Flow
  pub found : View
  pub own : IsOwn f l.view flow
  pub over : is_over (history flow) ≡ true
  pub kept : IsUse f flow (history flow) l.view found
  pub swept : IsSwept f found m.view l.filed m.filed l.doomed m.doomed
  pub left : m.changes ≡ l.changes ++ Remove flow.tuple ∷ []
  pub gone : m.pins ≡ l.pins
  pub unkicked : m.kicks ≡ l.kicks
  pub told : m.path ≡ without f l.path

abbrev pub IsServed : (tick : ℕ) → FlowId → Ledger → Ledger → Type 0
IsServed tick f l m = WasTimed tick f l m ⊎ WasClosed f l m ⊎ WasBusy f l m

-- The flow at that place of the list was served, and its pin is there still, or left the list.
abbrev pub IsServedAt : (tick at : ℕ) → (before after : Ledger) → (stays : Bool) → Type 0
IsServedAt tick at l m stays =
    (f : FlowId)
    × (slice_get l.pins at ≡ Some f)
    × IsServed tick f (record l { pins = take at l.pins }) (record m { pins = take (at + one_if stays) m.pins })
    × (drop (at + one_if stays) m.pins ≡ drop (suc at) l.pins)

-- Memory was wanting at the flow at that place, and its record was given back as it was.
abbrev pub IsRefusedAt : (at : ℕ) → (pins : List FlowId) → (before after : View) → Type 0
IsRefusedAt at pins v w = (f : FlowId) × (slice_get pins at ≡ Some f) × IsCallRefused f v w OutOfMemory

-- ----- all flows
-- This became of each of these flows, one after the other.
abbrev pub OneByOne : (FlowId → Ledger → Ledger → Type 0) → List FlowId → Ledger → Ledger → Type 0
OneByOne became [] l m = m ≡ l
OneByOne became (f ∷ fs) l m = (n : Ledger) × became f l n × OneByOne became fs n m

abbrev pub AreServed : (tick : ℕ) → List FlowId → Ledger → Ledger → Type 0
AreServed tick fs l m = OneByOne (IsServed tick) fs l m

-- Served alone: none was busy.
abbrev pub AreServedAlone : (tick : ℕ) → List FlowId → Ledger → Ledger → Type 0
AreServedAlone tick fs l m = OneByOne (λ f k n. WasTimed tick f k n ⊎ WasClosed f k n) fs l m

-- A doomed flow was tried again.
pub record WasSweptAgain (f : FlowId) (l m : Ledger) : Type 0 where
  pub swept : IsSwept f l.view m.view l.filed m.filed l.doomed m.doomed
  pub rest : m ≡ record l { view = m.view; filed = m.filed; doomed = m.doomed }

abbrev pub AreSweptAgain : List FlowId → Ledger → Ledger → Type 0
AreSweptAgain fs l m = OneByOne WasSweptAgain fs l m

-- Memory was wanting at the first doomed flow that is left. Those that were tried stand behind those that weren't.
pub record IsSweepStopped (l m : Ledger) : Type 0 where
  pub done : List FlowId
  pub left : List FlowId
  pub all : l.doomed ≡ done ++ left
  pub after : Ledger
  pub swept : AreSweptAgain done (record l { doomed = [] }) after
  pub rest : m ≡ record after { doomed = left ++ after.doomed }

-- Each of the flows from that place of the list on was served.
abbrev pub AreServedFrom : (tick from : ℕ) → Ledger → Ledger → Type 0
AreServedFrom tick from l m = AreServed tick (drop from l.pins) (record l { pins = take from l.pins }) m

-- Memory was wanting at one flow, which stays as it was; those from that place on and before it were served. It stands
-- at the place `from'` now, and what is left behind it.
pub record IsWalkStopped (tick from from' : ℕ) (l m : Ledger) : Type 0 where
  pub done : List FlowId
  pub at : FlowId
  pub left : List FlowId
  pub all : drop from l.pins ≡ done ++ at ∷ left
  pub after : Ledger
  pub served : AreServed tick done (record l { pins = take from l.pins }) after
  pub refused : IsCallRefused at after.view m.view OutOfMemory
  pub rest : m ≡ record after { view = m.view; pins = after.pins ++ at ∷ left }
  pub place : from' ≡ length after.pins

-- Each doomed flow was tried again, and then each flow was served that hadn't had its time in this tick yet, which are
-- those from a place of the list on.
abbrev pub IsTickDone : (tick from : ℕ) → Ledger → Ledger → Type 0
IsTickDone tick from l m =
    (n : Ledger) × AreSweptAgain l.doomed (record l { doomed = [] }) n × AreServedFrom tick from n m

-- Memory was wanting. What was done stands, each pin is in its list still, and those before the place `from'` have had
-- their time in this tick.
abbrev pub IsTickStopped : (tick from from' : ℕ) → Ledger → Ledger → Type 0
IsTickStopped tick from from' l m =
    (IsSweepStopped l m × (from' ≡ from))
    ⊎ ((n : Ledger) × AreSweptAgain l.doomed (record l { doomed = [] }) n × IsWalkStopped tick from from' n m)
