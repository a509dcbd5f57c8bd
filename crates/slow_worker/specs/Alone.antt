-- What the slow path does with its flows where it is alone: each record is taken and given back, one after the other.
use Rattle.std.specs.Prelude.{◌≡◌, ℕ, List, [], ◌∷◌, ◌++◌}
use Rattle.tas_model.specs.declared.entry.FlowId.{FlowId}
use Rattle.flow_state.specs.Flow.{Flow}
use Rattle.flow_lock.specs.Orders.{known_of}
use Rattle.flow_lock.specs.declared.view.Held.{Held}
use Rattle.flow_lock.specs.declared.view.History.{History}
use Rattle.flow_lock.specs.declared.view.View.{View}
use Rattle.app_reaper.specs.OneCall.{history, IsOwn, IsUse}
use Rattle.core_worker.specs.Kicks.{kick_of, one_kick}
use Rattle.core_worker.specs.Sending.{IsAllSent, IsPartSent}
use Rattle.core_worker.specs.Workers.{Common}
use Rattle.core_worker.specs.declared.kicks.Kick.{Kick}
use Rattle.slow_worker.specs.Turns.{AreKicksPosted}
use Rattle.slow_worker.specs.Workers.{Worker}

-- ----- records
-- The flow's own record was taken and given back, and this became of its history meanwhile.
abbrev pub IsUsed : (became : History → History → Type 0) → FlowId → View → View → Type 0
IsUsed became id v w = (r : Flow) × (k : History) × IsOwn id v r × became (history r) k × IsUse id r k v w

-- so it was with these flows, one after the other
abbrev pub AreUsed : (became : History → History → Type 0) → List FlowId → View → View → Type 0
AreUsed became [] v w = w ≡ v
AreUsed became (id ∷ ids) v w = (u : View) × IsUsed became id v u × AreUsed became ids u w

-- the history stayed
abbrev pub IsAsItWas : History → History → Type 0
IsAsItWas h k = k ≡ h

-- ----- segments
-- Memory was wanting at one flow. All that may go was sent of those before it, and a part of that one's.
pub record IsSendStopped (tick : ℕ) (pins : List FlowId) (v w : View) : Type 0 where
  pub done : List FlowId
  pub at : FlowId
  pub left : List FlowId
  pub all : pins ≡ done ++ at ∷ left
  pub before : View
  pub sent : AreUsed (IsAllSent 0 tick) done v before
  pub part : IsUsed (IsPartSent 0 tick) at before w

-- ----- kicks
-- One kick for each of these flows of which a segment may go, in their order.
abbrev pub kicks_due : (known : List Held) → List FlowId → List Kick
kicks_due known [] = []
kicks_due known (id ∷ ids) = one_kick (kick_of id (known_of id known)) ++ kicks_due known ids

-- Each flow of the slow path was looked at, and its kicks are then those that are due, and no others.
pub record IsLookedAt (v w : Worker) : Type 0 where
  pub looked : AreUsed IsAsItWas v.pins v.pass.view w.pass.view
  pub due : w.kicks ≡ kicks_due v.pass.view.base v.pins
  pub rest : w ≡ record v { pass = record (v.pass) { view = w.pass.view }; kicks = w.kicks }

-- Then they were posted to the cores of their flows, or are kept.
abbrev pub IsAllKicked : Common → Worker → Worker → Type 0
IsAllKicked c v w = (m : Worker) × IsLookedAt v m × AreKicksPosted c m w

-- Memory was wanting: some flows were looked at, and the kicks are as they were.
pub record IsLookStopped (v w : Worker) : Type 0 where
  pub done : List FlowId
  pub left : List FlowId
  pub all : v.pins ≡ done ++ left
  pub looked : AreUsed IsAsItWas done v.pass.view w.pass.view
  pub rest : w ≡ record v { pass = record (v.pass) { view = w.pass.view } }
