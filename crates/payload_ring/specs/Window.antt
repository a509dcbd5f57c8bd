-- What a ring holds of a stream of bytes: a window of fixed size on it, of whose cells each has one byte at any time. A
-- place is the number of a byte in the stream.
use Rattle.std.specs.Prelude.{◌≡◌, ℕ, ◌+◌, ◌-◌, ◌^◌, ◌<◌, ◌≤◌, Bool, false, List, ◌++◌, length, take, drop, replicate}

pub record Window : Type 0 where
  pub size : ℕ  -- how many bytes it has room for
  pub base : ℕ  -- the place of the first byte that is kept
  pub bytes : List ℕ  -- what stands in order, from base on
  pub ahead : List ℕ  -- what the cells past those bytes hold, up to below base + size: whatever was put there last
  pub ready : Bool  -- its memory is there, so that bytes may be put

-- the place past the last byte in order
abbrev pub end_of : Window → ℕ
end_of w = w.base + length w.bytes

-- what the cells hold, from base to below base + size
abbrev pub cells_of : Window → List ℕ
cells_of w = w.bytes ++ w.ahead

-- how many bytes more can stand in order
abbrev pub room_of : Window → ℕ
room_of w = w.size - length w.bytes

-- the cells with a piece written over those from the offset `at` on
abbrev pub overlaid : (at : ℕ) (piece cells : List ℕ) → List ℕ
overlaid at piece cells = take at cells ++ (piece ++ drop (at + length piece) cells)

-- the window with its cells changed, and with as many of them in order as before
abbrev pub with_cells : List ℕ → Window → Window
with_cells cells w = record w { bytes = take (length w.bytes) cells; ahead = drop (length w.bytes) cells }

-- the window whose memory is given back
abbrev pub released : Window → Window
released w = record w { ahead = replicate w.size 0; ready = false }

-- true of what every ring holds
pub record IsWindow (w : Window) : Type 0 where
  pub full : length w.bytes + length w.ahead ≡ w.size
  pub some : 1 ≤ w.size
  pub limit : w.size ≤ 1048576
  pub far : w.base + length w.bytes < 2 ^ 127

-- the window has this size and base, and these bytes in order, whatever stands ahead
pub record Holds (w : Window) (n from : ℕ) (text : List ℕ) : Type 0 where
  pub size : w.size ≡ n
  pub base : w.base ≡ from
  pub bytes : w.bytes ≡ text
