-- What may still go at the end of a tick, the records of flows that are looked at then, and tries that are forgotten.
use Rattle.std.specs.Prelude.{◌≡◌, ℕ, ◌<◌, true, List, [], ◌∷◌, take, count_by, slice_get, Some}
use Rattle.atomic_table.specs.Seated.{TableId}
use Rattle.tas_model.specs.declared.entry.FlowId.{FlowId}
use Rattle.host_rounds.specs.Hosts.{Live, Host}
use Rattle.host_rounds.specs.Logs as logs
use Rattle.host_rounds.specs.SerialOrder.{emit_phase}
use Rattle.flow_state.specs.Flow.{Flow}
use Rattle.flow_lock.specs.Answers.{IsTaken}
use Rattle.flow_lock.specs.Passes.{Seen}
use Rattle.flow_lock.specs.Steps.{IsAlone}
use Rattle.flow_lock.specs.declared.view.View.{View}
use Rattle.app_reaper.specs.OneCall.{history, IsOwn}
use Rattle.core_phase.specs.declared.attempt.Answered.TheVariants as answers
use Rattle.core_phase.specs.declared.attempt.Attempt.TheVariants as attempts
use Rattle.core_phase.specs.declared.lane.Lane.{Lane}
use Rattle.core_phase.specs.declared.lane.Lane.TheVariants as lanes
use Rattle.slow_rounds.specs.Sending.{with_view}
use Rattle.core_host.specs.Serving.{KeepsTime}
use Rattle.core_host.specs.Sound.{IsStaffSound}
use Rattle.core_host.specs.Steps.{IsStep}
use Rattle.core_host.specs.Views.{Staffed}

-- ----- steps
-- Kicks were posted: the host is as it was.
abbrev pub IsKicked : (before after : Staffed) → Type 0
IsKicked before after = IsStep (λ (host : Host). host) before after × KeepsTime before after

-- All that might still go was sent.
abbrev pub IsRestSent : (tick : ℕ) → (before after : Staffed) → Type 0
IsRestSent t before after = IsStep (emit_phase t) before after × KeepsTime before after

-- ----- records
-- what a run has of a record
abbrev pub flow_of : Flow → logs.Flow
flow_of r = record { id = r.id; tuple = r.tuple; params = r.params; entries = r.entries }

-- A flow of the index stands at this place among all flows, behind so many others of the index.
pub record IsIndexedAt (place at : ℕ) (host : Host) : Type 0 where
  pub flow : Live
  pub there : slice_get host.flows place ≡ Some flow
  pub indexed : flow.indexed ≡ true
  pub behind : at ≡ count_by (λ (l : Live). l.indexed) (take place host.flows)

-- The flow's own record, of which this is the pin's place, was taken.
pub record IsPinTaken (pins : List FlowId) (at : ℕ) (r : Flow) (v w : View) : Type 0 where
  pub id : slice_get pins at ≡ Some r.id
  pub own : IsOwn r.id v r
  pub taken : IsTaken r.id (history r) v w

-- And it is out still.
pub record IsOut (table : TableId) (pins : List FlowId) (at : ℕ) (r : Flow) (v : View) (s : Seen) : Type 0 where
  pub pinned : IsPinTaken pins at r v s.view
  pub alone : IsAlone v
  pub own_table : s.table ≡ table
  pub slot : r.id.slot < table.slots

-- So it is with the slow path's pass of a host. All else is as it was.
pub record IsTakenAt (at : ℕ) (r : Flow) (before after : Staffed) : Type 0 where
  pub pinned : IsPinTaken before.host.slow.pins at r before.host.slow.pass.view after.host.slow.pass.view
  pub same : after ≡ record before { host = with_view after.host.slow.pass.view before.host }

-- It is the record of the flow that stands at this place among all flows.
abbrev pub IsRecordAt : (place : ℕ) → Flow → Host → Type 0
IsRecordAt place r host = (l : Live) → slice_get host.flows place ≡ Some l → l.flow ≡ flow_of r

-- ----- what applications try
-- the lane, where it tries nothing and has no answer
abbrev pub untried : Lane → Lane
untried (lanes.Core l) = lanes.Core l
untried (lanes.App l) = lanes.App (record l { attempt = attempts.Nothing; answer = answers.Nothing })

-- A core's lane is as it was, and an application's but for what it tries and was answered.
abbrev pub IsButTried : Lane → Lane → Type 0
IsButTried (lanes.Core v) (lanes.Core w) = w ≡ v
IsButTried (lanes.App v) (lanes.App w) = w ≡ record v { socket = w.socket; attempt = w.attempt; answer = w.answer }
IsButTried v w = ⊥

abbrev pub AreButTried : List Lane → List Lane → Type 0
AreButTried [] ws = ws ≡ []
AreButTried (v ∷ vs) [] = ⊥
AreButTried (v ∷ vs) (w ∷ ws) = IsButTried v w × AreButTried vs ws

-- What applications try or were answered is other than it was, and nothing else.
pub record AreTriesSet (before after : Staffed) : Type 0 where
  pub tries : AreButTried before.lanes after.lanes
  pub sound : IsStaffSound after
  pub same : after ≡ record before { lanes = after.lanes }
