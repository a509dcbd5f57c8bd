-- What the slow path makes of the frames that cores left, and of those that were handed to none.
use Rattle.std.specs.Prelude.{◌≡◌, ℕ, ◌+◌, ◌≤◌, List, [], ◌∷◌, length, map, fold}
use Rattle.tas_model.specs.declared.entry.Caller.TheVariants.{Slow}
use Rattle.host_rounds.specs.Deliveries.{received, delivered}
use Rattle.core_worker.specs.declared.frames.Frame.{Frame}
use Rattle.core_phase.specs.declared.lane.CoreLane.{CoreLane}
use Rattle.core_phase.specs.declared.lane.Lane.{Lane}
use Rattle.core_phase.specs.declared.lane.Lane.TheVariants as lanes
use Rattle.phase_orders.specs.Collecting.{all_broken, collected, log_of}
use Rattle.phase_orders.specs.CoreTurns.{arrivals_of, lines_of}
use Rattle.host_books.specs.Words.{joined}
use Rattle.slow_handshake.specs.Numbers.{FirstNumbers}
use Rattle.slow_rounds.specs.Rests.{starts_by}
use Rattle.core_host.specs.Sound.{IsStaffSound}
use Rattle.core_host.specs.Views.{Staffed, seen_by}

-- ----- the slow path
-- Time stands still: how far it has passed is as it was, and so are the records that were filed, and whether checksums
-- are looked at.
pub record KeepsTime (before after : Staffed) : Type 0 where
  pub time : after.host.slow.time ≡ before.host.slow.time
  pub filed : after.host.slow.filed ≡ before.host.slow.filed
  pub checks : after.host.slow.check_sums ≡ before.host.slow.check_sums

-- ----- frames that cores left
-- nothing that a core passed on or wrote is left there
abbrev pub cleared_core : CoreLane → CoreLane
cleared_core l = record l { worker = record (l.worker) { exceptions = []; deferred = []; log = [] } }

abbrev pub cleared : Lane → Lane
cleared (lanes.Core l) = lanes.Core (cleared_core l)
cleared (lanes.App l) = lanes.App l

-- The lanes left these frames in a phase of this tick, before which they were so: their lines are those of the frames
-- whose packets break a rule of reading.
abbrev pub AreLeft : (tick : ℕ) → (before : List Lane) → Staffed → Type 0
AreLeft t before h =
    joined log_of h.lanes ≡ lines_of h.host.slow.check_sums t (all_broken h.host.slow.check_sums before)

-- The slow path took them, in the order in which it collects them.
pub record IsServedOf (numbers : FirstNumbers) (t : ℕ) (vs : List Lane) (before after : Staffed) : Type 0 where
  pub made : seen_by after
      ≡ fold (delivered (received Slow) (starts_by numbers) t) (seen_by before)
      (collected before.host.slow.check_sums vs before.lanes)
  pub sound : IsStaffSound after
  pub lanes : after.lanes ≡ map cleared before.lanes
  pub same : after ≡ record before { host = after.host; lanes = after.lanes }
  pub still : KeepsTime before after

abbrev pub IsServed : FirstNumbers → (tick : ℕ) → (before after : Staffed) → Type 0
IsServed numbers t before after = (vs : List Lane) → AreLeft t vs before → IsServedOf numbers t vs before after

-- ----- frames that were handed to no core
-- The slow path took these, in their order, and let the other workers be.
pub record AreTaken (numbers : FirstNumbers) (t : ℕ) (frames : List Frame) (before after : Staffed) : Type 0 where
  pub made : seen_by after
      ≡ fold (delivered (received Slow) (starts_by numbers) t) (seen_by before)
      (arrivals_of before.host.slow.check_sums frames)
  pub sound : IsStaffSound after
  pub same : after ≡ record before { host = after.host }
  pub still : KeepsTime before after
  pub few : length after.host.books ≤ length before.host.books + length frames

abbrev pub IsOneTaken : FirstNumbers → (tick : ℕ) → Frame → (before after : Staffed) → Type 0
IsOneTaken numbers t f = AreTaken numbers t (f ∷ [])
