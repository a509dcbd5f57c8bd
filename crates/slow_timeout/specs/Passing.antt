-- A tick that passes where nothing comes of it.
use Rattle.std.specs.Prelude.{◌≡◌, ℕ, Bool, true, false}
use Rattle.flow_state.specs.declared.parts.Parts.{Parts}
use Rattle.flow_state.specs.Made.{IsQuietTick, IsLoudTick}

-- Where it passed, nothing came of it. Else nothing changed, and something comes of it.
pub record MayPass (before : Parts) (tick : ℕ) (passed : Bool) (after : Parts) : Type 0 where
  pub made : passed ≡ true → IsQuietTick before tick after
  pub unmade : passed ≡ false → after ≡ before
  pub loud : passed ≡ false → IsLoudTick before tick
  pub phase : after.phase ≡ before.phase
  pub tuple : after.tuple ≡ before.tuple
  pub params : after.params ≡ before.params
