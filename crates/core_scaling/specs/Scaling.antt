-- How many cores of a host are live, by how many frames came in a tick. Live cores are those with the lowest numbers.
use Rattle.std.specs.Prelude.{ℕ, ◌+◌, ◌-◌, ◌*◌, ◌≤◌, ◌<◌, nat_lt, ◌&&◌, if◌then◌else◌}
use Rattle.core_scaling.specs.declared.scaler.Change.{Change}
use Rattle.core_scaling.specs.declared.scaler.Change.TheVariants.{Keep, Add, Remove}

pub record Scale : Type 0 where
  pub max : ℕ  -- so many cores may be live
  pub low : ℕ  -- with fewer frames than this for each live core in a tick, one less is enough
  pub high : ℕ  -- with more than this, one more is wanted
  pub live : ℕ

-- At least one core is live, and at most so many; what is too few is never too much.
pub record IsScale (s : Scale) : Type 0 where
  pub cores : (1 ≤ s.max) × (s.max ≤ 16)
  pub bounds : (1 ≤ s.low) × (s.low < s.high)
  pub live : (1 ≤ s.live) × (s.live ≤ s.max)

abbrev pub change_by : (frames : ℕ) → Scale → Change
change_by n s =
    if nat_lt (s.high * s.live) n && nat_lt s.live s.max then Add
    else if nat_lt n (s.low * s.live) && nat_lt 1 s.live then Remove
    else Keep

abbrev pub live_after : Change → (live : ℕ) → ℕ
live_after Keep n = n
live_after Add n = n + 1
live_after Remove n = n - 1
