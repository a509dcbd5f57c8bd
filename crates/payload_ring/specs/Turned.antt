-- How a ring's cells lie in memory.
use Rattle.std.specs.Prelude.{ℕ, Bool, List, ◌++◌, take, drop}

pub record Store : Type 0 where
  pub cells : List ℕ
  pub ready : Bool  -- their memory is there, so that they may be written to

-- the cells in order of their places, where the first place has the cell `start`
abbrev pub turned : ℕ → List ℕ → List ℕ
turned start cells = drop start cells ++ take start cells
