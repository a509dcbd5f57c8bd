-- The slots that are marked as taken.
use Rattle.std.specs.Prelude.{◌≡◌, ◌<◌, ℕ, Bool, true, false, List, get_or}

-- this slot is not marked, and all below it are
pub record IsLowest (marks : List Bool) (lowest : ℕ) : Type 0 where
  pub free : get_or marks lowest false ≡ false
  pub below : (slot : ℕ) → slot < lowest → get_or marks slot false ≡ true
