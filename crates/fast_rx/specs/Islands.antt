-- What stands past a gap, by its distance from the end of what is in order and its length, when more comes in order.
use Rattle.std.specs.Prelude.{ℕ, ◌+◌, ◌-◌, nat_le, Option, Some, None, if◌then◌else◌}

-- how many bytes of it are in order, once `count` more bytes are
abbrev pub bridge : Option (ℕ × ℕ) → (count : ℕ) → ℕ
bridge None count = 0
bridge (Some i) count = if nat_le i.0 count then i.0 + i.1 - count else 0

-- what is left of it past a gap
abbrev pub rest : Option (ℕ × ℕ) → (count : ℕ) → Option (ℕ × ℕ)
rest None count = None
rest (Some i) count = if nat_le i.0 count then None else Some (i.0 - count, i.1)
