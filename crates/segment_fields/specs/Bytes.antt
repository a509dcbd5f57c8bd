-- Numbers in network byte order: the most significant byte first (RFC 791, appendix B).
use Rattle.std.specs.Prelude.{ℕ, ◌+◌, ◌*◌, ◌/◌, ◌%◌, List, [], ◌∷◌, slice_index}

-- the number of 8, 16 or 32 bits that begins at place i
abbrev pub byte : List ℕ → (i : ℕ) → ℕ
byte b i = slice_index b i

abbrev pub half : List ℕ → (i : ℕ) → ℕ
half b i = 256 * byte b i + byte b (i + 1)

abbrev pub word : List ℕ → (i : ℕ) → ℕ
word b i = 65536 * half b i + half b (i + 2)

-- the bytes of a number of 16 or 32 bits
abbrev pub two : ℕ → List ℕ
two n = n / 256 ∷ n % 256 ∷ []

abbrev pub four : ℕ → List ℕ
four n = n / 16777216 ∷ n / 65536 % 256 ∷ n / 256 % 256 ∷ n % 256 ∷ []
