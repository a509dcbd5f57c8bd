-- Lanes of which only what was handed to a core or left by it is different: they are the same staff.
use Rattle.std.proofs.Common.{◌≡◌, ℕ, zero, suc, Bool, List, [], ◌∷◌, sym, ap, ◌∙◌, subst}
use Rattle.host_rounds.specs.Lists.{Each}
use Rattle.core_worker.specs.Workers.{Common}
use Rattle.core_phase.specs.Lanes.{IsIdle}
use Rattle.core_phase.specs.declared.lane.CoreLane.{CoreLane}
use Rattle.core_phase.specs.declared.lane.AppLane.{AppLane}
use Rattle.core_phase.specs.declared.lane.Lane.{Lane}
use Rattle.core_phase.specs.declared.lane.Lane.TheVariants as lanes
use Rattle.sound_phases.specs.Phased.{apps_in}
use Rattle.core_host.specs.Sound.{AreApps, AreStaff, IsResting}

-- the core with the lists of this one
abbrev pub lists_of : CoreLane → CoreLane → CoreLane
lists_of w v = record v {
  worker = record (v.worker) {
    frames = w.worker.frames;
    exceptions = w.worker.exceptions;
    deferred = w.worker.deferred;
    log = w.worker.log;
  };
}

abbrev pub IsKin : Lane → Lane → Type 0
IsKin (lanes.Core v) (lanes.Core w) = w ≡ lists_of w v
IsKin (lanes.App v) (lanes.App w) = w ≡ v
IsKin v w = ⊥

abbrev pub AreKin : List Lane → List Lane → Type 0
AreKin [] ws = ws ≡ []
AreKin (v ∷ vs) [] = ⊥
AreKin (v ∷ vs) (w ∷ ws) = IsKin v w × AreKin vs ws

pub kin_apps : (vs ws : List Lane) → AreKin vs ws → apps_in ws ≡ apps_in vs
kin_apps [] ws kin = ap apps_in kin
kin_apps (v ∷ vs) [] kin = absurd kin
kin_apps (lanes.Core v ∷ vs) (lanes.Core w ∷ ws) kin = kin_apps vs ws kin.1
kin_apps (lanes.Core v ∷ vs) (lanes.App w ∷ ws) kin = absurd kin.0
kin_apps (lanes.App v ∷ vs) (lanes.Core w ∷ ws) kin = absurd kin.0
kin_apps (lanes.App v ∷ vs) (lanes.App w ∷ ws) kin =
    let more = kin_apps vs ws kin.1 in λ i. (kin.0 i).app ∷ more i

kin_names : (names : List ℕ) (vs ws : List Lane) → AreApps names vs → AreKin vs ws → AreApps names ws
kin_names [] vs ws are kin = subst (λ l. AreKin l ws) are kin
kin_names (n ∷ ns) [] ws are kin = absurd are
kin_names (n ∷ ns) (v ∷ vs) [] are kin = absurd kin
kin_names (n ∷ ns) (lanes.Core v ∷ vs) (w ∷ ws) are kin = absurd are
kin_names (n ∷ ns) (lanes.App v ∷ vs) (lanes.Core w ∷ ws) are kin = absurd kin.0
kin_names (n ∷ ns) (lanes.App v ∷ vs) (lanes.App w ∷ ws) are kin =
    (ap (λ (x : AppLane). x.app.number) kin.0 ∙ are.0, kin_names ns vs ws are.1 kin.1)

pub kin_staff : (n first : ℕ) (names : List ℕ) (vs ws : List Lane) → AreStaff n first names vs → AreKin vs ws
    → AreStaff n first names ws
kin_staff zero first names vs ws are kin = kin_names names vs ws are kin
kin_staff (suc n) first names [] ws are kin = absurd are
kin_staff (suc n) first names (v ∷ vs) [] are kin = absurd kin
kin_staff (suc n) first names (lanes.App v ∷ vs) (w ∷ ws) are kin = absurd are
kin_staff (suc n) first names (lanes.Core v ∷ vs) (lanes.App w ∷ ws) are kin = absurd kin.0
kin_staff (suc n) first names (lanes.Core v ∷ vs) (lanes.Core w ∷ ws) are kin =
    (ap (λ (x : CoreLane). x.worker.core) kin.0 ∙ are.0, kin_staff n (suc first) names vs ws are.1 kin.1)

idle_still : (c : Common) (v w : CoreLane) → IsIdle c (lanes.Core v) → IsIdle c (lanes.Core (lists_of w v))
idle_still c v w (same, is) = (
  same,
  record {
    table = is.table;
    turns = is.turns;
    slow = is.slow;
    baton = is.baton;
    pins = is.pins;
    held = is.held;
    queue = is.queue;
    senders = is.senders;
  },
)

pub kin_idle : (c : Common) (vs ws : List Lane) → Each (IsIdle c) vs → AreKin vs ws → Each (IsIdle c) ws
kin_idle c [] ws are kin = subst (Each (IsIdle c)) (sym kin) tt
kin_idle c (v ∷ vs) [] are kin = absurd kin
kin_idle c (lanes.Core v ∷ vs) (lanes.App w ∷ ws) are kin = absurd kin.0
kin_idle c (lanes.App v ∷ vs) (lanes.Core w ∷ ws) are kin = absurd kin.0
kin_idle c (lanes.App v ∷ vs) (lanes.App w ∷ ws) are kin =
    (subst (λ (x : AppLane). IsIdle c (lanes.App x)) (sym kin.0) are.0, kin_idle c vs ws are.1 kin.1)
kin_idle c (lanes.Core v ∷ vs) (lanes.Core w ∷ ws) are kin = (
  subst (λ (x : CoreLane). IsIdle c (lanes.Core x)) (sym kin.0) (idle_still c v w are.0),
  kin_idle c vs ws are.1 kin.1,
)

pub kin_resting : (check : Bool) (vs ws : List Lane) → Each (IsResting check) vs → AreKin vs ws
    → Each (IsResting check) ws
kin_resting check [] ws are kin = subst (Each (IsResting check)) (sym kin) tt
kin_resting check (v ∷ vs) [] are kin = absurd kin
kin_resting check (lanes.Core v ∷ vs) (lanes.App w ∷ ws) are kin = absurd kin.0
kin_resting check (lanes.App v ∷ vs) (lanes.Core w ∷ ws) are kin = absurd kin.0
kin_resting check (lanes.App v ∷ vs) (lanes.App w ∷ ws) are kin = (
  subst (λ (x : AppLane). IsResting check (lanes.App x)) (sym kin.0) are.0,
  kin_resting check vs ws are.1 kin.1,
)
kin_resting check (lanes.Core v ∷ vs) (lanes.Core w ∷ ws) are kin =
    (ap (λ (x : CoreLane). x.worker.check_sums) kin.0 ∙ are.0, kin_resting check vs ws are.1 kin.1)
