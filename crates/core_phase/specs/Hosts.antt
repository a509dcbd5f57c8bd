-- The lanes of several hosts, in one list.
use Rattle.std.specs.Prelude.{◌≡◌, ◌+◌, ◌≤◌, true, List, [], ◌∷◌, ◌++◌, take, drop, length, All}
use Rattle.std.specs.Arc.{arc_value}
use Rattle.flow_lock.specs.Orders.{Order}
use Rattle.flow_lock.specs.Plays.{IsOrdered, IsCounted}
use Rattle.flow_lock.specs.Steps.{IsAlone, HasAll}
use Rattle.flow_lock.specs.declared.view.View.{View}
use Rattle.core_worker.specs.Workers.{Common}
use Rattle.core_phase.specs.Lanes.{IsIdle, IsReady}
use Rattle.core_phase.specs.Phases.{AreLent, AreBack, turns_in, IsPhase}
use Rattle.core_phase.specs.declared.hosts.HostPart.{HostPart}
use Rattle.core_phase.specs.declared.lane.Lane.{Lane}

abbrev pub common_in : HostPart → Common
common_in h = arc_value h.shared

-- each host has so many lanes, one host's after the other's, and of each that holds
abbrev pub ByHosts : (P : HostPart → List Lane → Type 0) → List HostPart → List Lane → Type 0
ByHosts P [] ls = ls ≡ []
ByHosts P (h ∷ hs) ls = (h.lanes ≤ length ls) × P h (take h.lanes ls) × ByHosts P hs (drop h.lanes ls)

-- of each host and its lanes, before and after, that holds
abbrev pub BetweenHosts : (P : HostPart → HostPart → List Lane → List Lane → Type 0) → List HostPart → List HostPart
    → List Lane → List Lane → Type 0
BetweenHosts P [] gs ls ms = (gs ≡ []) × (ms ≡ [])
BetweenHosts P (h ∷ hs) [] ls ms = ⊥
BetweenHosts P (h ∷ hs) (g ∷ gs) ls ms =
    P h g (take h.lanes ls) (take h.lanes ms) × BetweenHosts P hs gs (drop h.lanes ls) (drop h.lanes ms)

-- between ticks: the slow path is alone, and the lanes have no turn
pub record IsIdleHost (h : HostPart) (vs : List Lane) : Type 0 where
  pub table : h.slow.table ≡ (common_in h).table
  pub alone : IsAlone h.slow.view
  pub lanes : All (IsIdle (common_in h)) vs

-- all turns are lent
pub record IsLentHost (h g : HostPart) (vs ls : List Lane) : Type 0 where
  pub slow : g ≡ record h {
    slow = record (h.slow)
        { view = record (h.slow.view) { made = h.slow.view.made + length vs } };
  }
  pub lent : AreLent h.slow.view.made vs ls

-- with all turns given back
abbrev pub back_in : HostPart → List Lane → View
back_in h ms = record (h.slow.view) { turns = h.slow.view.turns ++ turns_in ms }

-- the lanes have all turns of the host
pub record IsReadyHost (h : HostPart) (ms : List Lane) : Type 0 where
  pub table : h.slow.table ≡ (common_in h).table
  pub baton : h.slow.view.baton ≡ true
  pub all : HasAll (back_in h ms)
  pub lanes : All (IsReady (common_in h)) ms

-- all turns were given back, and the slow path knows what was done in them
pub record IsLearnedHost (h g : HostPart) (ms ws : List Lane) : Type 0 where
  pub same : g ≡ record h { slow = record (h.slow) { view = g.slow.view } }
  pub back : AreBack ms ws
  pub order : (order : Order) × IsOrdered order (back_in h ms) g.slow.view
  pub words : IsCounted (back_in h ms) g.slow.view

-- a host's phase
pub record IsHostPhase (h g : HostPart) (vs ws : List Lane) : Type 0 where
  pub same : g ≡ record h { slow = record (h.slow) { view = g.slow.view } }
  pub phase : IsPhase vs ws h.slow.view g.slow.view
