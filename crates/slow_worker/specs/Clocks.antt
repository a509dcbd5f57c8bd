-- How far time has passed for the flows.
use Rattle.std.specs.Prelude.{ℕ, ◌==◌, ◌≤◌, if◌then◌else◌, Bool, false, Option, Some, None, IfSome}
use Rattle.slow_worker.specs.declared.clock.Clock.{Clock}
use Rattle.slow_worker.specs.declared.clock.Clock.TheVariants.{New, Passing, Passed}

-- the time of this tick has passed for all flows
abbrev pub has_passed_in : (tick : ℕ) → Clock → Bool
has_passed_in tick (Passed t) = t == tick
has_passed_in tick _ = false

-- for so many of the first pins the time of this tick has passed, where it hasn't for all
abbrev pub served_in : (tick : ℕ) → Clock → ℕ
served_in tick (Passing t served) = if t == tick then served else 0
served_in tick _ = 0

-- the last tick that has begun
abbrev pub last_tick : Clock → Option ℕ
last_tick New = None
last_tick (Passing t served) = Some t
last_tick (Passed t) = Some t

-- ticks rise: no later one has begun
abbrev pub HasRisen : (tick : ℕ) → Clock → Type 0
HasRisen tick c = IfSome (last_tick c) (λ t. t ≤ tick)
