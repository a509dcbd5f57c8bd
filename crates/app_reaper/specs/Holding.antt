-- What the reaper does with the flows of an application that ended with the baton.
use Rattle.std.specs.Prelude.{◌≡◌, ℕ, false, None}
use Rattle.flow_lock.specs.Passes.{Seen, both, without_baton, with_baton}
use Rattle.flow_lock.specs.Steps.{IsAlone}
use Rattle.flow_lock.specs.declared.view.View.{View}
use Rattle.atomic_table.specs.Seated.{TableId}
use Rattle.app_reaper.specs.Reaping.{ArePins, IsHeld, returned, AreReaped, IsStopped}
use Rattle.app_reaper.specs.declared.ended.Ended.{Ended}
use Rattle.app_reaper.specs.declared.one_call.CallFault.TheVariants.{OutOfMemory}

-- what an application leaves that has the baton where nobody has a turn, so that no record was busy
pub record IsEndedAlone (table : TableId) (ended : Ended) : Type 0 where
  pub own : ended.pass.table ≡ table
  pub plain : ended.pass.view.slow ≡ false
  pub alone : IsAlone ended.pass.view
  pub pins : ArePins table.slots ended.pass.view ended.pins.list
  pub held : IsHeld ended.pass.view ended.pins.list ended.held
  pub found : ended.busy ≡ None

-- The record held was given back, and then all flows were aborted and all pins given up. The slow path has the baton,
-- with all that is known, and took in what the pass had seen and done.
abbrev pub IsReapedWithBaton : (tick : ℕ) → Ended → (before after : Seen) → Type 0
IsReapedWithBaton tick ended s n =
    (w : View)
    × AreReaped tick ended.pins.list (returned ended.held ended.pass.view) w
    × (n ≡ record s { view = both (with_baton s.view w) w })

-- The reaper stopped for want of memory. The slow path has the baton, with all that is known, and the pass keeps the
-- rest.
abbrev pub IsReapedWithBatonInPart : (tick : ℕ) → Ended → (left : Ended) → (before after : Seen) → Type 0
IsReapedWithBatonInPart tick ended left s n =
    (w : View)
    × IsStopped tick ended.pins.list left.pins.list (returned ended.held ended.pass.view) w OutOfMemory
    × (left.pass ≡ record ended.pass { view = without_baton w })
    × (n ≡ record s { view = with_baton s.view w })
