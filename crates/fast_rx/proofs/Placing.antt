-- The places of a received segment.
use Rattle.std.proofs.Common.{◌≡◌, ℕ, ◌^◌, ◌<◌, Option, Some, None, IfSome, sym, arith}
use Rattle.tas_num.specs.Places.{nearest}
use Rattle.tas_num.proofs.Nearest.{nearest_only}

-- a place that is found lies near
pub far_of : (o : Option ℕ) (near word : ℕ) → o ≡ nearest near word → word < 2 ^ 32 → near < 2 ^ 126
    → IfSome o (λ x. x < 2 ^ 127)
far_of None near word is small low = tt
far_of (Some x) near word is small low = omega (arith, (nearest_only near word x small (sym is)).below)
