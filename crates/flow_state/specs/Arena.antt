-- What is seen of a record's memory.
use Rattle.std.specs.Prelude.{◌≡◌, ℕ, ◌-◌, ◌^◌, ◌≤◌, List, length, take, min}
use Rattle.flow_state.specs.declared.slot.CameSlot.{CameSlot}

-- The bytes of the entries, and the segments that came, but for their payloads: these are among the bytes.
pub record Memory : Type 0 where
  pub bytes : List ℕ
  pub came : List CameSlot

abbrev pub memory_of : (bytes : List ℕ) (came : List CameSlot) → Memory
memory_of bytes came = record { bytes = bytes; came = came }

-- what stood in the memory stands there still
pub record Grows (before after : Memory) : Type 0 where
  pub bytes : take (length before.bytes) after.bytes ≡ before.bytes
  pub came : take (length before.came) after.came ≡ before.came
  pub longer : length before.bytes ≤ length after.bytes
  pub longer_came : length before.came ≤ length after.came

-- what is kept, and how many more bytes and segments there is room for without more memory
pub record Held : Type 0 where
  pub memory : Memory
  pub spare : ℕ
  pub spare_came : ℕ

-- how many segments a list of this capacity and length has room for: places, and their number, are written in 32 bits
abbrev pub came_room : (capacity len : ℕ) → ℕ
came_room capacity len = min capacity (2 ^ 32 - 1) - len
