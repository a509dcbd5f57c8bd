-- Lines that are alike but for digits, which rise by one from line to line.
use Rattle.std.specs.Prelude.{◌≡◌, ℕ, zero, suc, ◌+◌, ◌<◌, ◌≤◌, List, [], ◌++◌, length, set, slice_index}

-- so many lines one after the other, from that on which is j behind the first
abbrev pub lines_from : (line : ℕ → List ℕ) → (j count : ℕ) → List ℕ
lines_from line j zero = []
lines_from line j (suc n) = line j ++ lines_from line (j + 1) n

-- a line with the digits at these places raised by so much
abbrev pub raised : List ℕ → (first second by : ℕ) → List ℕ
raised line first second by =
    set (set line first (slice_index line first + by)) second (slice_index line second + by)

-- the byte at this place is a digit
pub record IsDigit (line : List ℕ) (place : ℕ) : Type 0 where
  pub inside : place < length line
  pub least : 48 ≤ slice_index line place
  pub most : slice_index line place ≤ 57

-- Later lines, up to the last, are the j-th one with these digits raised, as long as neither would pass 9.
pub record AreAlike (line : ℕ → List ℕ) (j last first second : ℕ) : Type 0 where
  pub one : IsDigit (line j) first
  pub other : IsDigit (line j) second
  pub alike : (k : ℕ) → j + k ≤ last → slice_index (line j) first + k ≤ 57 → slice_index (line j) second + k ≤ 57
      → line (j + k) ≡ raised (line j) first second k
