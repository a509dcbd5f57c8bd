-- What a text begins with, and what stands behind it.
use Rattle.std.specs.Prelude.{ℕ, ◌+◌, ◌-◌, ◌*◌, ◌%◌, ◌==◌, Bool, true, false, not, ◌&&◌, ◌||◌, nat_le, List, []}
use Rattle.std.specs.Prelude.{◌∷◌}
use Rattle.std.specs.Prelude.{length, drop, codes, Option, Some, None, if◌then◌else◌}
use Rattle.std.specs.List.{prefix_len, take_while}
use Rattle.scenario_text.specs.Words.{is_empty, is_digit, number_in}

-- It gives what stands at the front of a text and what stands behind it, or nothing.
abbrev pub Reader : Type 0 → Type 0
Reader A = (text : List ℕ) → Option (A × List ℕ)

-- what comes of a value, where there is one
unfoldable pub with : {A B : Type 0} → (A → Option B) → Option A → Option B
with f None = None
with f (Some x) = f x

-- the first of two that there is
unfoldable pub or : {A : Type 0} → Option A → Option A → Option A
or (Some a) other = Some a
or None other = other

-- ----- fixed words
-- what stands behind these bytes, where a text begins with them
unfoldable pub behind : (front text : List ℕ) → Option (List ℕ)
behind [] text = Some text
behind (c ∷ cs) [] = None
behind (c ∷ cs) (b ∷ bs) = elim (b == c) [ true ↦ behind cs bs | false ↦ None ]

-- what such a word means
abbrev pub word : {A : Type 0} → (word : List ℕ) → A → Reader A
word front meaning text = with (λ rest. Some (meaning, rest)) (behind front text)

-- ----- readers of several parts
-- what is made of what was read
abbrev pub made : {A B : Type 0} → (A → B) → Reader A → Reader B
made f reader text = with (λ a. Some (f a.0, a.1)) (reader text)

-- one behind fixed bytes
abbrev pub after : {A : Type 0} → (front : List ℕ) → Reader A → Reader A
after front reader text = with reader (behind front text)

-- one before fixed bytes
abbrev pub before : {A : Type 0} → Reader A → (back : List ℕ) → Reader A
before reader back text = with (λ a. with (λ rest. Some (a.0, rest)) (behind back a.1)) (reader text)

-- two, one behind the other
abbrev pub both : {A B : Type 0} → Reader A → Reader B → Reader (A × B)
both first second text = with (λ a. with (λ b. Some ((a.0, b.0), b.1)) (second a.1)) (first text)

-- what stands behind fixed bytes, where these are there
abbrev pub where_there : {A : Type 0} → Reader A → (text : List ℕ) → Option (List ℕ) → Option (Option A × List ℕ)
where_there reader text None = Some (None, text)
where_there reader text (Some rest) = with (λ a. Some (Some a.0, a.1)) (reader rest)

abbrev pub maybe : {A : Type 0} → (front : List ℕ) → Reader A → Reader (Option A)
maybe front reader text = where_there reader text (behind front text)

-- the first of several that reads
abbrev pub one_of : {A : Type 0} → List (Reader A) → Reader A
one_of [] text = None
one_of (reader ∷ []) text = reader text
one_of (reader ∷ other ∷ readers) text = or (reader text) (one_of (other ∷ readers) text)

-- ----- bytes of one kind
-- what stands behind the bytes at the front that pass
abbrev pub past : (ℕ → Bool) → (text : List ℕ) → List ℕ
past test text = drop (prefix_len test text) text

-- ----- numbers
-- the number at the front, by all digits there: decimal, from 0 to `high`, without a leading zero
unfoldable pub number : (high : ℕ) → Reader ℕ
number high text = with (λ n. Some (n, past is_digit text)) (number_in 0 high (take_while is_digit text))

abbrev pub u8 : Reader ℕ
u8 = number 255

abbrev pub u16 : Reader ℕ
u16 = number 65535

abbrev pub u32 : Reader ℕ
u32 = number 4294967295

abbrev pub u64 : Reader ℕ
u64 = number 18446744073709551615

-- ----- bytes in hexadecimal
-- a digit of lower case
abbrev pub is_hex : ℕ → Bool
is_hex c = is_digit c || (nat_le 97 c && nat_le c 102)

abbrev pub hex_value : (digit : ℕ) → ℕ
hex_value c = if is_digit c then c - 48 else if nat_le 97 c && nat_le c 102 then c - 87 else 0

-- the bytes that digits write, two digits a byte
abbrev pub bytes_in : (digits : List ℕ) → List ℕ
bytes_in [] = []
bytes_in (a ∷ []) = []
bytes_in (a ∷ b ∷ ds) = (hex_value a * 16 + hex_value b) ∷ bytes_in ds

-- they write some bytes, and whole ones
abbrev pub are_pairs : (digits : List ℕ) → Bool
are_pairs digits = not (is_empty digits) && length digits % 2 == 0

-- the bytes at the front, by all digits there
unfoldable pub some_hex : Reader (List ℕ)
some_hex text = if are_pairs (take_while is_hex text) then Some
    (bytes_in (take_while is_hex text), past is_hex text)
    else None

-- the same, or `-` for no bytes
unfoldable pub hex_bytes : Reader (List ℕ)
hex_bytes = one_of (word (codes "-") [] ∷ some_hex ∷ [])
