-- What the cores and applications of a host make of it side by side.
use Rattle.std.specs.Prelude.{◌≡◌, ℕ, ◌+◌, ◌++◌, true, List, [], map, Option, ⊤}
use Rattle.host_rounds.specs.Lists.{Each}
use Rattle.flow_lock.specs.Orders.{Order}
use Rattle.flow_lock.specs.Plays.{IsOrdered, IsCounted}
use Rattle.flow_lock.specs.Steps.{HasAll}
use Rattle.flow_lock.specs.declared.view.View.{View}
use Rattle.host_books.specs.Books.{Book}
use Rattle.core_phase.specs.Lanes.{IsReady, MayPlay}
use Rattle.core_phase.specs.Phases.{AreBack, turns_in, IsPhase}
use Rattle.core_phase.specs.declared.lane.Lane.{Lane}
use Rattle.core_phase.specs.declared.lane.Lane.TheVariants as lanes
use Rattle.sound_phases.specs.Phased.{apps_in, after_phase}
use Rattle.core_host.specs.Leaving.{books_by}
use Rattle.core_host.specs.Sound.{IsStaffSound}
use Rattle.core_host.specs.Views.{Staffed}
use Rattle.core_host.specs.declared.leaving.Leaver.{Leaver}

-- ----- lanes
-- the lane's next turn is one of this tick
abbrev pub in_tick : (t : ℕ) → Lane → Lane
in_tick t (lanes.Core l) = lanes.Core (record l { tick = t })
in_tick t (lanes.App l) = lanes.App (record l { tick = t })

abbrev pub all_in_tick : (t : ℕ) → List Lane → List Lane
all_in_tick t ls = map (in_tick t) ls

-- a core has no frames left
abbrev pub IsEmptied : Lane → Type 0
IsEmptied (lanes.Core l) = l.worker.frames ≡ []
IsEmptied (lanes.App l) = ⊤

-- ----- a host
-- what its slow path knows
abbrev pub view_of : Staffed → View
view_of h = h.host.slow.pass.view

-- the calls that its applications try may be tried
abbrev pub MayAllPlay : Staffed → Type 0
MayAllPlay h = Each MayPlay h.lanes

-- Its lanes took their turns of this tick, side by side, and tried what they might: there is one order of what they
-- did, the host is what that leaves of it, and is sound. The cores took all frames that were handed to them.
pub record IsPlayed (t : ℕ) (before after : Staffed) : Type 0 where
  pub may : MayAllPlay before
  pub phase : IsPhase (all_in_tick t before.lanes) after.lanes (view_of before) (view_of after)
  pub host : after.host ≡ after_phase (all_in_tick t before.lanes) after.lanes (view_of after) before.host
  pub sound : IsStaffSound after
  pub same : after ≡ record before { host = after.host; lanes = after.lanes }
  pub taken : Each IsEmptied after.lanes

-- ----- while its lanes are away
-- the host with what its slow path then knows, and with these lanes and books
abbrev pub shared_as : View → List Lane → List Book → Staffed → Staffed
shared_as v ls books h = record h {
  host = record (h.host) {
    slow = record (h.host.slow) { pass = record (h.host.slow.pass) { view = v } };
    apps = apps_in ls;
    books = books;
  };
  lanes = ls;
}

-- so many turns were lent, and the lanes that have them are away
abbrev pub lent_by : (turns : ℕ) → Staffed → Staffed
lent_by n h = shared_as (record (view_of h) { made = (view_of h).made + n }) [] h.host.books h

-- with the turns of these lanes given back
abbrev pub with_back : List Lane → Staffed → View
with_back ms h = record (view_of h) { turns = (view_of h).turns ++ turns_in ms }

-- these lanes may come back to it, and have all turns that it lent
pub record IsReadyFor (ms : List Lane) (h : Staffed) : Type 0 where
  pub table : h.host.slow.pass.table ≡ h.shared.table
  pub baton : (view_of h).baton ≡ true
  pub all : HasAll (with_back ms h)
  pub lanes : Each (IsReady h.shared) ms

-- They came back, it learned what they did, and the sockets that these gave up have no holder.
pub record IsBack (leavers : List (Option Leaver)) (ms : List Lane) (before after : Staffed) : Type 0 where
  pub lanes : AreBack ms after.lanes
  pub order : (order : Order) × IsOrdered order (with_back ms before) (view_of after)
  pub words : IsCounted (with_back ms before) (view_of after)
  pub same : after ≡ shared_as (view_of after) after.lanes (books_by leavers after.lanes before.host.books) before
