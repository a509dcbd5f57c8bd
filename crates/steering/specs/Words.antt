-- How a table is kept: in four words, 16 groups a word, four bits a group, the lowest group in the lowest bits.
-- The bits of a group say by how many cores it stands past its first one.
use Rattle.std.specs.Prelude.{ℕ, zero, suc, ◌+◌, ◌/◌, ◌%◌, List, [], ◌∷◌, slice_index}
use Rattle.steering.specs.Tables.{Table}

-- k numbers of four bits, the lowest first
unfoldable pub digits : (k word : ℕ) → List ℕ
digits zero word = []
digits (suc k) word = word % 16 ∷ digits k (word / 16)

-- by how many cores the group stands past its first one
abbrev pub distance : List ℕ → (group : ℕ) → ℕ
distance words group = slice_index (digits 16 (slice_index words (group / 16))) (group % 16)

-- the cores of k groups from `group` on
unfoldable pub cores_from : (cores : ℕ) → List ℕ → (group k : ℕ) → Table
cores_from cores words group zero = []
cores_from cores words group (suc k) = (group + distance words group) % cores ∷ cores_from cores words (suc group) k

-- the table that four words keep
abbrev pub table_of : (cores : ℕ) → List ℕ → Table
table_of cores words = cores_from cores words 0 64
