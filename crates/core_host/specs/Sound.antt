-- What holds of a host and its lanes between two steps of a tick.
use Rattle.std.specs.Prelude.{◌≡◌, ℕ, zero, suc, ◌<◌, Bool, List, [], ◌∷◌, ⊤}
use Rattle.host_rounds.specs.Lists.{Each}
use Rattle.slow_worker.specs.Clocks.{served_in}
use Rattle.slow_worker.specs.Kicking.{CanKick}
use Rattle.slow_worker.specs.Workers.{HasSenders}
use Rattle.core_phase.specs.Lanes.{IsIdle}
use Rattle.core_phase.specs.declared.attempt.Answered.TheVariants as answers
use Rattle.core_phase.specs.declared.attempt.Attempt.TheVariants as attempts
use Rattle.core_phase.specs.declared.lane.Lane.{Lane}
use Rattle.core_phase.specs.declared.lane.Lane.TheVariants as lanes
use Rattle.sound_hosts.specs.Sound.{IsHostSound}
use Rattle.sound_phases.specs.Phased.{apps_in}
use Rattle.sound_hosts.specs.Counting.{IsCounted}
use Rattle.core_host.specs.Views.{Staffed}

-- ----- lanes
-- the applications with these numbers
abbrev pub AreApps : List ℕ → List Lane → Type 0
AreApps [] ls = ls ≡ []
AreApps (n ∷ ns) [] = ⊥
AreApps (n ∷ ns) (lanes.Core l ∷ ls) = ⊥
AreApps (n ∷ ns) (lanes.App l ∷ ls) = (l.app.number ≡ n) × AreApps ns ls

-- so many cores, numbered from this one on, and then the applications with these numbers
abbrev pub AreStaff : (cores first : ℕ) → (names : List ℕ) → List Lane → Type 0
AreStaff zero first names ls = AreApps names ls
AreStaff (suc n) first names [] = ⊥
AreStaff (suc n) first names (lanes.Core l ∷ ls) = (l.worker.core ≡ first) × AreStaff n (suc first) names ls
AreStaff (suc n) first names (lanes.App l ∷ ls) = ⊥

-- a core looks at checksums as the slow path does, and an application's lane has the number of a host
abbrev pub IsResting : (check : Bool) → Lane → Type 0
IsResting check (lanes.Core l) = l.worker.check_sums ≡ check
IsResting check (lanes.App l) = l.host < 67108863

-- an application tries nothing, and has no answer
abbrev pub IsUnasked : Lane → Type 0
IsUnasked (lanes.Core l) = ⊤
IsUnasked (lanes.App l) = (l.attempt ≡ attempts.Nothing) × (l.answer ≡ answers.Nothing)

-- a core has no frames, passed none on, and wrote no line
abbrev pub IsClear : Lane → Type 0
IsClear (lanes.Core l) =
    (l.worker.frames ≡ []) × (l.worker.exceptions ≡ []) × (l.worker.deferred ≡ []) × (l.worker.log ≡ [])
IsClear (lanes.App l) = ⊤

-- ----- a host
-- It is sound, and its slow path may take a turn; its lanes are its cores and the applications that run, of which none
-- has a turn.
pub record IsStaffSound (h : Staffed) : Type 0 where
  pub host : IsHostSound h.host
  pub counted : IsCounted h.host
  pub table : h.host.table ≡ h.shared.table
  pub senders : HasSenders h.shared h.host.slow
  pub kickers : CanKick h.shared h.host.slow.kickers
  pub timed : (t : ℕ) → served_in t h.host.slow.time ≡ 0
  pub some : (0 < h.cores) × (h.shared.steering.cores ≡ h.cores)
  pub steer : h.steer.place ≡ h.shared.steering
  pub apps : h.host.apps ≡ apps_in h.lanes
  pub staff : AreStaff h.cores 0 h.names h.lanes
  pub idle : Each (IsIdle h.shared) h.lanes
  pub resting : Each (IsResting h.host.slow.check_sums) h.lanes
  pub room : h.room ≡ 65536
