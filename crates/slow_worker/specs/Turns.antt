-- A turn of the slow path's worker: the first of a tick passes time, and each later one handles the frames that wait.
use Rattle.std.specs.Prelude.{◌≡◌, ℕ, Bool, true, false, List, [], ◌∷◌, ◌++◌, ◌⊎◌, Option, Some, None}
use Rattle.std.specs.Prelude.{position, slice_get}
use Rattle.std.specs.List.{filter}
use Rattle.tas_model.specs.declared.entry.FlowId.{FlowId}
use Rattle.flow_index.specs.Changes.{AnswerAlike, Begins}
use Rattle.flow_index.specs.declared.change.Change.{Change}
use Rattle.flow_lock.specs.Orders.{same_flow}
use Rattle.app_reaper.specs.Lists.{is_on}
use Rattle.flow_clock.specs.Ledgers.{Ledger, ledger}
use Rattle.flow_clock.specs.Walks.{IsTickDone, IsTickStopped}
use Rattle.slow_handshake.specs.Numbers.{FirstNumbers}
use Rattle.core_worker.specs.Workers.{Common}
use Rattle.core_worker.specs.declared.kicks.Kick.{Kick}
use Rattle.slow_worker.specs.Clocks.{has_passed_in, served_in}
use Rattle.slow_worker.specs.Kicking.{IsKicked, AreKicked}
use Rattle.slow_worker.specs.Workers.{Worker}
use Rattle.slow_worker.specs.Queues.{IsAllServed, IsPartServed}
use Rattle.slow_worker.specs.declared.clock.Clock.TheVariants.{Passing, Passed}
use Rattle.slow_worker.specs.declared.known.KnownFlow.{KnownFlow}

-- ----- flows whose pin is still there
abbrev pub pin_at : List FlowId → Option ℕ → Option FlowId
pin_at pins None = None
pin_at pins (Some k) = slice_get pins k

abbrev pub is_its : FlowId → Option FlowId → Bool
is_its id None = false
is_its id (Some p) = same_flow p id

-- the first pin on the flow's slot is its own
abbrev pub is_pinned : List FlowId → FlowId → Bool
is_pinned pins id = is_its id (pin_at pins (position (is_on id.slot) pins))

abbrev pub still_known : (pins : List FlowId) → List KnownFlow → List KnownFlow
still_known pins = filter (λ f. is_pinned pins f.id)

-- ----- time
-- the slow path's view and lists, with these changes of the index that aren't published yet, and the kicks that aren't
-- posted
abbrev pub ledger_of : Worker → List Change → Ledger
ledger_of w changes = ledger w.pass.view w.pins w.doomed w.filed changes w.kicks w.path

-- what the time of a tick leaves as it was
abbrev pub with_time : Worker → Worker → Worker
with_time w v = record v {
  path = w.path;
  pass = w.pass;
  pins = w.pins;
  doomed = w.doomed;
  filed = w.filed;
  flows = w.flows;
  index = w.index;
  time = w.time;
  kicks = w.kicks;
}

-- Each flow that hadn't had its time in this tick had it, and is to be kicked where it then has something to send, or
-- was closed, in order; those closed are known no more and wait for no Accept, and the index shows it.
pub record IsTimePassed (tick : ℕ) (v w : Worker) : Type 0 where
  pub changes : List Change
  pub done : IsTickDone tick (served_in tick v.time) (ledger_of v v.index.pending) (ledger_of w changes)
  pub later : Begins v.index.published w.index.published
  pub shown : AnswerAlike w.index.published (v.index.published ++ changes)
  pub pending : w.index.pending ≡ []
  pub readers : w.index.left ≡ v.index.left
  pub flows : w.flows ≡ still_known w.pins v.flows
  pub time : w.time ≡ Passed tick
  pub rest : w ≡ with_time w v

-- Memory was wanting at a flow: those that have had their time in this tick are the first ones.
abbrev pub IsTimeHalted : (tick : ℕ) → Worker → Worker → Type 0
IsTimeHalted tick v w =
    (served : ℕ)
    × IsTickStopped tick (served_in tick v.time) served (ledger_of v v.index.pending) (ledger_of w w.index.pending)
    × (w.time ≡ Passing tick served)

-- Memory was wanting at a flow, or to publish the changes. What was done stands.
pub record IsTimeStopped (tick : ℕ) (v w : Worker) : Type 0 where
  pub stopped : IsTimeHalted tick v w
      ⊎ (IsTickDone tick (served_in tick v.time) (ledger_of v v.index.pending) (ledger_of w w.index.pending)
      × (w.time ≡ Passed tick))
  pub published : w.index.published ≡ v.index.published
  pub readers : w.index.left ≡ v.index.left
  pub flows : w.flows ≡ still_known w.pins v.flows
  pub rest : w ≡ with_time w v

-- ----- kicks
-- Each kick that was to be posted was posted or is kept, and those that are kept are all that is left.
pub record AreKicksPosted (c : Common) (v w : Worker) : Type 0 where
  pub posted : AreKicked c v.kicks v.kickers w.kickers w.kicks
  pub rest : w ≡ record v { kickers = w.kickers; kicks = w.kicks }

-- the first of them
pub record IsFirstKicked (c : Common) (v n : Worker) : Type 0 where
  pub first : Kick
  pub rest : List Kick
  pub waits : v.kicks ≡ first ∷ rest
  pub kept : List Kick
  pub kicked : IsKicked c first v.kickers n.kickers kept
  pub after : n.kicks ≡ rest ++ kept
  pub same : n ≡ record v { kickers = n.kickers; kicks = n.kicks }

-- ----- turns
-- the time of this tick has passed
abbrev pub has_passed : (tick : ℕ) → Worker → Bool
has_passed tick w = has_passed_in tick w.time

abbrev pub IsWork : (later : Bool) → FirstNumbers → Common → (tick : ℕ) → Worker → Worker → Type 0
IsWork false ns c tick v w = IsTimePassed tick v w
IsWork true ns c tick v w = IsAllServed ns c tick v w

abbrev pub IsWorkStopped : (later : Bool) → FirstNumbers → Common → (tick : ℕ) → Worker → Worker → Type 0
IsWorkStopped false ns c tick v w = IsTimeStopped tick v w
IsWorkStopped true ns c tick v w = IsPartServed ns c tick v w

-- Then the kicks were posted: those that were kept before, and those of flows that were left with something to send.
abbrev pub IsTurn : (later : Bool) → FirstNumbers → Common → (tick : ℕ) → Worker → Worker → Type 0
IsTurn later ns c tick v w = (m : Worker) × IsWork later ns c tick v m × AreKicksPosted c m w

-- Memory was wanting. What was done stands, and the kicks were posted all the same.
abbrev pub IsTurnStopped : (later : Bool) → FirstNumbers → Common → (tick : ℕ) → Worker → Worker → Type 0
IsTurnStopped later ns c tick v w = (m : Worker) × IsWorkStopped later ns c tick v m × AreKicksPosted c m w
