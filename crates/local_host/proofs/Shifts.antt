-- The shifts of window scales that a capture gives.
use Rattle.std.proofs.Common.{ℕ, ◌≤◌, Option, Some, None, IfSome, arith}

-- a replay gives less than may be given
pub replays_shift : (scale : Option ℕ) → IfSome scale (λ shift. shift ≤ 10) → IfSome scale (λ shift. shift ≤ 14)
replays_shift None low = tt
replays_shift (Some shift) low = omega (arith, low)
