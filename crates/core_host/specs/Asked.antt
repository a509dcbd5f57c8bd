-- What stays of a host that its applications ask, one after the other.
use Rattle.std.specs.Prelude.{◌≡◌, ℕ, ◌==◌, List, position, remove, Some, IsSome, refl}
use Rattle.std.proofs.Common.{sym, subst, ◌∙◌}
use Rattle.core_host.specs.Asking.{HasApp}
use Rattle.core_host.specs.Sound.{IsStaffSound}
use Rattle.core_host.specs.Ticks.{AreAsked}
use Rattle.core_host.specs.Views.{Staffed}

-- It may be asked again, with the same cores, which have left nothing where they had nothing left. The same
-- applications run, in the same tick, by the same steering, and no record was filed.
pub record IsAskedOf (before after : Staffed) : Type 0 where
  pub asked : AreAsked before after
  pub names : after.names ≡ before.names
  pub shared : after.shared ≡ before.shared
  pub steer : after.steer ≡ before.steer
  pub room : after.room ≡ before.room
  pub time : after.host.slow.time ≡ before.host.slow.time
  pub filed : after.host.slow.filed ≡ before.host.slow.filed

-- The same, but that this application runs no more. All others do.
pub record IsAskedLess (app : ℕ) (before after : Staffed) : Type 0 where
  pub asked : AreAsked before after
  -- its place among the applications
  pub place : ℕ
  pub runs : position (λ (n : ℕ). n == app) before.names ≡ Some place
  pub names : after.names ≡ remove before.names place
  pub others : (other : ℕ) → ¬ (other ≡ app) → HasApp other before → HasApp other after
  pub shared : after.shared ≡ before.shared
  pub steer : after.steer ≡ before.steer
  pub room : after.room ≡ before.room
  pub time : after.host.slow.time ≡ before.host.slow.time
  pub filed : after.host.slow.filed ≡ before.host.slow.filed

-- ----- laws
-- one that stands keeps what it has
pub asked_itself : (h : Staffed) → IsStaffSound h → AreAsked h h
asked_itself h sound = record {
  sound = sound;
  cores = refl;
  checks = refl;
  clear = λ each. each;
  unasked = λ each. each;
  filed = λ filed. filed;
}

-- what two rows of asking left
pub asked_on : (f g h : Staffed) → AreAsked f g → AreAsked g h → AreAsked f h
asked_on f g h first later = record {
  sound = later.sound;
  cores = later.cores ∙ first.cores;
  checks = later.checks ∙ first.checks;
  clear = λ each. later.clear (first.clear each);
  unasked = λ each. later.unasked (first.unasked each);
  filed = λ filed. later.filed (first.filed filed);
}

pub stays_itself : (h : Staffed) → IsStaffSound h → IsAskedOf h h
stays_itself h sound = record {
  asked = asked_itself h sound;
  names = refl;
  shared = refl;
  steer = refl;
  room = refl;
  time = refl;
  filed = refl;
}

pub stays_on : (f g h : Staffed) → IsAskedOf f g → IsAskedOf g h → IsAskedOf f h
stays_on f g h first later = record {
  asked = asked_on f g h first.asked later.asked;
  names = later.names ∙ first.names;
  shared = later.shared ∙ first.shared;
  steer = later.steer ∙ first.steer;
  room = later.room ∙ first.room;
  time = later.time ∙ first.time;
  filed = later.filed ∙ first.filed;
}

-- the applications run on
pub runs_on : (f g : Staffed) (app : ℕ) → IsAskedOf f g → HasApp app f → HasApp app g
runs_on f g app kept has =
    subst (λ (names : List ℕ). IsSome (position (λ (n : ℕ). n == app) names)) (sym kept.names) has
