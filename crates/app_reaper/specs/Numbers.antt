-- Numbers in a list, and a map that leads each to its first place.
use Rattle.std.specs.Prelude.{◌≡◌, ℕ, ◌+◌, ◌==◌, ◌≤◌, Bool, true, false, List, length, position, Option, Some, None}
use Rattle.std.specs.Prelude.{if◌then◌else◌}
use Rattle.std.specs.Option.{option_or}

abbrev pub is_number : (number : ℕ) → ℕ → Bool
is_number number n = n == number

-- what the map had, or else the place of one number more
abbrev pub or_place : Option ℕ → (is_it : Bool) → (place : ℕ) → Option ℕ
or_place had is_it place = option_or had (if is_it then Some place else None)

-- The map leads each number to its first place, but where the list isn't indexed: then the map is empty. The list and
-- the map have the room.
pub record AreNumbers (list : List ℕ) (is_indexed : Bool) (room capacity : ℕ) (places : ℕ → Option ℕ)
    (count free : ℕ) : Type 0 where
  pub first : is_indexed ≡ true → (n : ℕ) → places n ≡ position (is_number n) list
  pub empty : is_indexed ≡ false → count ≡ 0
  pub few : count ≤ length list
  pub within : length list ≤ room
  pub listed : room ≤ capacity
  pub placed : room ≤ count + free
