-- What a tick that may pass owes, where it passed and where it did not.
use Rattle.std.proofs.Common.{◌≡◌, ℕ, true, false, refl}
use Rattle.flow_state.specs.declared.parts.Parts.{Parts}
use Rattle.flow_state.specs.Made.{IsQuietTick, IsLoudTick}
use Rattle.slow_timeout.specs.Passing.{MayPass}

pub passed : (before : Parts) (tick : ℕ) (after : Parts) → IsQuietTick before tick after
    → after.phase ≡ before.phase → after.tuple ≡ before.tuple → MayPass before tick true after
passed before tick after quiet same tuple = record {
  made = λ is. quiet;
  unmade = λ is. absurd (cc (is));
  loud = λ is. absurd (cc (is));
  phase = same;
  tuple = tuple;
  params = quiet.params;
}

pub not_passed : (before : Parts) (tick : ℕ) → IsLoudTick before tick → MayPass before tick false before
not_passed before tick loud = record {
  made = λ is. absurd (cc (is));
  unmade = λ is. refl;
  loud = λ is. loud;
  phase = refl;
  tuple = refl;
  params = refl;
}
