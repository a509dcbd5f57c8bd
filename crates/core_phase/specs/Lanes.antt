-- What works side by side with others: a core's worker or an application, each with a turn.
use Rattle.std.specs.Prelude.{◌≡◌, ◌<◌, false, List, [], ⊤}
use Rattle.std.specs.Arc.{arc_value}
use Rattle.tas_model.specs.declared.entry.FlowId.{FlowId}
use Rattle.flow_lock.specs.Passes.{Seen}
use Rattle.flow_lock.specs.Steps.{HasTurn}
use Rattle.flow_lock.specs.declared.view.Deed.{Deed}
use Rattle.flow_lock.specs.declared.view.Turn.{Turn}
use Rattle.core_worker.specs.Workers.{Common, Worker, IsFree, HasQueue, HasSenders, with_pass}
use Rattle.core_worker.specs.Turns.{IsTurn, IsDrained}
use Rattle.libtas_sockets.specs.Apps.{Application, flow_of, with_view}
use Rattle.core_phase.specs.Attempts.{MayTry, HasTried, AreOfTry, pin_left}
use Rattle.core_phase.specs.Deeds.{IsTurnOf}
use Rattle.core_phase.specs.declared.lane.CoreLane.{CoreLane}
use Rattle.core_phase.specs.declared.lane.AppLane.{AppLane}
use Rattle.core_phase.specs.declared.lane.Lane.{Lane}
use Rattle.core_phase.specs.declared.lane.Lane.TheVariants as lanes

-- ----- lanes
-- what the host's lanes share, and the lane's pass
abbrev pub common_of : Lane → Common
common_of (lanes.Core l) = arc_value l.shared
common_of (lanes.App l) = arc_value l.shared

abbrev pub pass_of : Lane → Seen
pass_of (lanes.Core l) = l.worker.pass
pass_of (lanes.App l) = l.app.pass

-- with other turns
abbrev pub with_turns_of : List Turn → Lane → Lane
with_turns_of ts (lanes.Core l) =
    let pass : Seen = record (l.worker.pass) { view = record (l.worker.pass.view) { turns = ts } } in
    lanes.Core (record l { worker = with_pass pass l.worker })
with_turns_of ts (lanes.App l) = lanes.App
    (record l { app = with_view (record (l.app.pass.view) { turns = ts }) l.app })

-- ----- between ticks
-- a worker has no turn, no pin and no record, and neither the baton nor the slow path's pass
pub record IsIdleCore (c : Common) (w : Worker) : Type 0 where
  pub table : w.pass.table ≡ c.table
  pub turns : w.pass.view.turns ≡ []
  pub slow : w.pass.view.slow ≡ false
  pub baton : w.pass.view.baton ≡ false
  pub pins : w.pass.view.pins ≡ []
  pub held : w.pass.view.held ≡ []
  pub queue : HasQueue c w
  pub senders : HasSenders c w

-- an application has the pins of its sockets
pub record IsIdleApp (c : Common) (a : Application) : Type 0 where
  pub table : a.pass.table ≡ c.table
  pub turns : a.pass.view.turns ≡ []
  pub slow : a.pass.view.slow ≡ false
  pub baton : a.pass.view.baton ≡ false

abbrev pub IsIdle : Common → Lane → Type 0
IsIdle c (lanes.Core l) = (arc_value l.shared ≡ c) × IsIdleCore c l.worker
IsIdle c (lanes.App l) = (arc_value l.shared ≡ c) × IsIdleApp c l.app

-- the call may be tried
abbrev pub MayPlay : Lane → Type 0
MayPlay (lanes.Core l) = ⊤
MayPlay (lanes.App l) = MayTry l.app l.socket l.attempt × (l.host < 67108863)

-- ----- with a turn
pub record IsReadyCore (c : Common) (w : Worker) : Type 0 where
  pub free : IsFree c w
  pub queue : HasQueue c w
  pub senders : HasSenders c w

pub record IsReadyApp (c : Common) (a : Application) : Type 0 where
  pub table : a.pass.table ≡ c.table
  pub turn : HasTurn a.pass.view
  pub slow : a.pass.view.slow ≡ false
  pub baton : a.pass.view.baton ≡ false

abbrev pub IsReady : Common → Lane → Type 0
IsReady c (lanes.Core l) = (arc_value l.shared ≡ c) × IsReadyCore c l.worker
IsReady c (lanes.App l) = (arc_value l.shared ≡ c) × IsReadyApp c l.app

abbrev pub CanPlay : Lane → Type 0
CanPlay l = IsReady (common_of l) l × MayPlay l

-- it took its turn, unless memory was wanting
pub record HasPlayedCore (v w : CoreLane) : Type 0 where
  pub same : w ≡ record v { worker = w.worker; failed = w.failed }
  pub ready : IsReadyCore (arc_value v.shared) w.worker
  pub played : w.failed ≡ false → IsTurn (arc_value v.shared) v.tick v.worker w.worker
  pub empty : w.failed ≡ false → w.worker.frames ≡ []
  pub drained : w.failed ≡ false → IsDrained (arc_value v.shared) v.worker.core v.worker.kicks w.worker.kicks

pub record HasPlayedApp (v w : AppLane) : Type 0 where
  pub same : w ≡ record v { app = w.app; attempt = w.attempt; answer = w.answer }
  pub tried : HasTried v.socket v.tick v.app w.app v.attempt w.attempt w.answer

abbrev pub HasPlayed : Lane → Lane → Type 0
HasPlayed (lanes.Core v) (lanes.Core w) = HasPlayedCore v w
HasPlayed (lanes.App v) (lanes.App w) = HasPlayedApp v w
HasPlayed v w = ⊥

-- memory was not wanting
abbrev pub Works : Lane → Type 0
Works (lanes.Core l) = l.failed ≡ false
Works (lanes.App l) = ⊤

-- ----- what was done in a turn
abbrev pub IsOf : Lane → Lane → List Deed → Type 0
IsOf (lanes.Core v) (lanes.Core w) ds = IsTurnOf v.tick v.worker w.worker ds
IsOf (lanes.App v) (lanes.App w) ds =
    AreOfTry v.app.number (flow_of v.app v.socket) v.tick v.attempt w.attempt w.answer ds
IsOf v w ds = ⊥

-- the pins that were given up for good
abbrev pub pins_left : Lane → Lane → List FlowId
pins_left (lanes.App v) (lanes.App w) = pin_left (flow_of v.app v.socket) v.attempt w.answer
pins_left v w = []
