-- What the slow path has of the flows of its host.
use Rattle.std.specs.Prelude.{◌≡◌, ℕ, ◌+◌, ◌<◌, ◌≤◌, Bool, true, false, not, List, [], length}
use Rattle.std.specs.List.{filter}
use Rattle.tas_model.specs.declared.entry.FlowId.{FlowId}
use Rattle.flow_state.specs.Flow.{Flow}
use Rattle.flow_index.specs.declared.change.Change.{Change}
use Rattle.atomic_table.specs.Seated.{TableId}
use Rattle.flow_lock.specs.Callers.{IsOwner}
use Rattle.flow_lock.specs.Orders.{total, at_slot}
use Rattle.flow_lock.specs.Passes.{Seen}
use Rattle.flow_lock.specs.Steps.{HasAll, HasTurn, IsAlone, MayAct}
use Rattle.flow_lock.specs.declared.view.View.{View}
use Rattle.host_rounds.specs.Lists.{Each}
use Rattle.slow_handshake.specs.Openings.{Openings, is_named}
use Rattle.core_worker.specs.declared.kicks.Kick.{Kick}

-- The slow path's view and lists, as contracts see them.
pub record Ledger : Type 0 where
  pub view : View
  pub pins : List FlowId  -- of flows that it hasn't found closed
  pub doomed : List FlowId  -- of closed ones that others have pins of
  pub filed : List Flow
  pub changes : List Change  -- of the index, not published yet
  pub kicks : List Kick  -- not posted yet
  pub path : Openings  -- of flows that are neither accepted nor closed

abbrev pub ledger : View → (pins doomed : List FlowId) → List Flow → List Change → List Kick → Openings → Ledger
ledger view pins doomed filed changes kicks path = record {
  view = view;
  pins = pins;
  doomed = doomed;
  filed = filed;
  changes = changes;
  kicks = kicks;
  path = path;
}

-- The flow waits for no Accept: it counts to no backlog, and none is given it.
abbrev pub without : FlowId → Openings → Openings
without id o = record o { flows = filter (λ f. not (is_named id f)) o.flows }

-- so it is where it is closed
abbrev pub without_closed : (closed : Bool) → FlowId → Openings → Openings
without_closed true id o = without id o
without_closed false id o = o

-- the slow path may act, and holds nothing
abbrev pub IsReady : TableId → Seen → Type 0
IsReady table s = (s.table ≡ table) × MayAct s.view × (s.view.held ≡ [])

-- A view may do what another may: it is alone, has a turn, has all turns and holds nothing where that one is, has and
-- does so; and it has the baton, stands for as many passes, has opened as many flows and has as many slots as that
-- one.
pub record KeepsRights (v w : View) : Type 0 where
  pub alone : IsAlone v → IsAlone w
  pub turned : HasTurn v → HasTurn w
  pub all : HasAll v → HasAll w
  pub idle : v.held ≡ [] → w.held ≡ []
  pub baton : w.baton ≡ v.baton
  pub parts : w.parts ≡ v.parts
  pub opened : w.opened ≡ v.opened
  pub slots : length w.marks ≡ length v.marks

-- it has a pin of the flow, whose slot is live
abbrev pub IsKept : (slots : ℕ) → Seen → FlowId → Type 0
IsKept slots s f = IsOwner f s × (f.slot < slots)

-- It has a pin of each of these flows, and no two stand in one slot.
pub record AreKept (slots : ℕ) (s : Seen) (doomed pins : List FlowId) : Type 0 where
  pub each_doomed : Each (IsKept slots s) doomed
  pub each_pin : Each (IsKept slots s) pins
  pub once : (i : ℕ) → total (at_slot i) doomed + total (at_slot i) pins ≤ 1
