-- What contracts see of the slow path's worker.
use Rattle.std.specs.Prelude.{◌≡◌, ℕ, Bool, List, [], ◌++◌, slice_get, Option, Some}
use Rattle.std.specs.List.{find}
use Rattle.std.specs.Option.{option_map}
use Rattle.atomic_table.specs.Seated.{TableId}
use Rattle.tas_model.specs.declared.entry.FlowId.{FlowId}
use Rattle.tas_model.specs.declared.entry.FourTuple.{FourTuple}
use Rattle.tas_model.specs.Valid.{InRange}
use Rattle.host_rounds.specs.declared.log.LogLine.{LogLine}
use Rattle.flow_state.specs.Flow.{Flow}
use Rattle.flow_index.specs.Changes.{Writing, is_same}
use Rattle.flow_lock.specs.Passes.{Seen}
use Rattle.app_reaper.specs.Lists.{Roomy}
use Rattle.flow_clock.specs.Ledgers as clock
use Rattle.slow_handshake.specs.Numbers.{FirstNumbers}
use Rattle.slow_handshake.specs.Openings.{Openings}
use Rattle.core_worker.specs.Telling.{AreOwnSenders}
use Rattle.core_worker.specs.Workers.{Common}
use Rattle.core_worker.specs.declared.frames.PassedFrame.{PassedFrame}
use Rattle.core_worker.specs.declared.kicks.Kick.{Kick}
use Rattle.core_worker.specs.declared.senders.AppSender.{AppSender}
use Rattle.core_worker.specs.declared.shared.AppQueue.{AppQueue}
use Rattle.slow_worker.specs.Kicking.{Kicking}
use Rattle.slow_worker.specs.declared.clock.Clock.{Clock}
use Rattle.slow_worker.specs.declared.known.KnownFlow.{KnownFlow}

-- What handling a frame looks at or changes of the worker: the lists of openings, its pass, the slow path's pins of
-- open flows and of closed ones that others have pins of, the flows by their four-tuples, the index that shows these to
-- cores, the lines that it wrote, what its senders posted to applications, and the kicks that weren't posted yet.
pub record Sight : Type 0 where
  pub path : Openings
  pub pass : Seen
  pub pins : List FlowId
  pub doomed : List FlowId
  pub flows : List KnownFlow
  pub index : Writing
  pub log : List LogLine
  pub senders : List AppSender
  pub kicks : List Kick

-- The slow path's worker: besides, the records that were filed, whether it looks at checksums, the frames that cores
-- passed on (those that another pass stood in the way of, and the exceptions), how far time has passed, and how kicks
-- go to cores.
pub record Worker : Type 0 where
  pub path : Openings
  pub pass : Seen
  pub pins : List FlowId
  pub doomed : List FlowId
  pub filed : List Flow
  pub log : List LogLine
  pub check_sums : Bool
  pub flows : List KnownFlow
  pub index : Writing
  pub deferred : Roomy PassedFrame
  pub exceptions : Roomy PassedFrame
  pub time : Clock
  pub senders : List AppSender
  pub kicks : List Kick
  pub kickers : Kicking

abbrev pub sight_of : Worker → Sight
sight_of w = record {
  path = w.path;
  pass = w.pass;
  pins = w.pins;
  doomed = w.doomed;
  flows = w.flows;
  index = w.index;
  log = w.log;
  senders = w.senders;
  kicks = w.kicks;
}

abbrev pub with_sight : Sight → Worker → Worker
with_sight s w = record w {
  path = s.path;
  pass = s.pass;
  pins = s.pins;
  doomed = s.doomed;
  flows = s.flows;
  index = s.index;
  log = s.log;
  senders = s.senders;
  kicks = s.kicks;
}

-- a worker that knows no flow, and tells no application
abbrev pub first_sight : Openings → Seen → Writing → Sight
first_sight path pass index = record {
  path = path;
  pass = pass;
  pins = [];
  doomed = [];
  flows = [];
  index = index;
  log = [];
  senders = [];
  kicks = [];
}

-- the frames that wait: the exceptions, and then the deferred ones
abbrev pub waiting : Worker → List PassedFrame
waiting w = w.exceptions.list ++ w.deferred.list

-- ----- flows by their four-tuples
abbrev pub has_tuple : FourTuple → KnownFlow → Bool
has_tuple t f = is_same f.tuple t

abbrev pub id_of : KnownFlow → FlowId
id_of f = f.id

-- the flow that has this four-tuple
abbrev pub flow_with : FourTuple → List KnownFlow → Option FlowId
flow_with t fs = option_map id_of (find (has_tuple t) fs)

-- ----- what holds between two calls
-- the pin of this flow is in the list
abbrev pub HasItsPin : List FlowId → FlowId → Type 0
HasItsPin pins id = (j : ℕ) × (slice_get pins j ≡ Some id)

-- The pass is of this table, may act and holds no record; the pins of both lists are its own, and each flow has one.
pub record AreKept (t : TableId) (pass : Seen) (doomed pins : List FlowId) (flows : List KnownFlow) : Type 0 where
  pub ready : clock.IsReady t pass
  pub owned : clock.AreKept t.slots pass doomed pins
  pub known : (k : ℕ) (f : KnownFlow) → slice_get flows k ≡ Some f → HasItsPin pins f.id

abbrev pub IsSound : TableId → Sight → Type 0
IsSound t s = AreKept t s.pass s.doomed s.pins s.flows × InRange s.path.params

-- each of its senders posts to its application's queue
abbrev pub HasSenders : Common → Worker → Type 0
HasSenders c w = AreOwnSenders c.queues w.senders

-- ----- who handles frames, and when
-- the tick, whether checksums are looked at, the queues of applications, and the first numbers of flows that are opened
pub record Setting : Type 0 where
  pub tick : ℕ
  pub check_sums : Bool
  pub queues : List AppQueue
  pub numbers : FirstNumbers

abbrev pub setting_of : FirstNumbers → Common → (tick : ℕ) → Worker → Setting
setting_of numbers c tick w =
    record { tick = tick; check_sums = w.check_sums; queues = c.queues; numbers = numbers }
