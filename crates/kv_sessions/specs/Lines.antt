-- Lines of the protocol, their words, and which words are keys and numbers.
use Rattle.std.specs.Prelude.{ℕ, ◌+◌, ◌-◌, ◌*◌, ◌^◌, ◌==◌, Bool, true, false, not, ◌&&◌, ◌||◌, nat_le, nat_lt}
use Rattle.std.specs.Prelude.{List, [], ◌∷◌, length, take, drop, slice_index, fold, filter, position}
use Rattle.std.specs.Prelude.{Option, Some, None, if◌then◌else◌}
use Rattle.std.specs.List.{slice_split, list_all}
use Rattle.kv_sessions.specs.declared.TheConstants.{LONGEST_LINE, LONGEST_KEY}

-- ----- lines
abbrev pub is_line_feed : ℕ → Bool
is_line_feed c = c == 10

-- A line's text: what stands before its LF, without one CR at its end.
abbrev pub text_of : (before : List ℕ) → List ℕ
text_of before =
    let last = length before - 1 in
    if slice_index before last == 13 then take last before else before

-- What bytes begin with: a line that has no end yet, one that is too long, or a line's text, and the bytes behind it.
pub data FirstLine : Type 0 where
  Unended : FirstLine
  TooLong : FirstLine
  Line : (text rest : List ℕ) → FirstLine

-- the line whose LF stands at this place, or at none
abbrev pub line_at : List ℕ → (end : Option ℕ) → FirstLine
line_at bytes None = if nat_lt (length bytes) (LONGEST_LINE + 2) then Unended else TooLong
line_at bytes (Some end) =
    let text = text_of (take end bytes) in
    if nat_le (length text) LONGEST_LINE then Line text (drop (end + 1) bytes) else TooLong

-- A line's LF is its byte 514 at the latest, behind 512 bytes and a CR.
abbrev pub first_line : List ℕ → FirstLine
first_line bytes = line_at bytes (position is_line_feed (take (LONGEST_LINE + 2) bytes))

-- ----- words
abbrev pub is_empty : List ℕ → Bool
is_empty [] = true
is_empty (c ∷ cs) = false

-- The words of a line: its parts between spaces, but for empty ones.
abbrev pub words_of : (text : List ℕ) → List (List ℕ)
words_of text = filter (λ (word : List ℕ). not (is_empty word)) (slice_split (λ (c : ℕ). c == 32) text)

-- ----- keys
-- bytes from 33 to 126, which are neither blanks nor controls
abbrev pub is_visible : ℕ → Bool
is_visible c = nat_le 33 c && nat_le c 126

abbrev pub is_key : List ℕ → Bool
is_key word = nat_le 1 (length word) && nat_le (length word) LONGEST_KEY && list_all is_visible word

-- ----- numbers
abbrev pub is_digit : ℕ → Bool
is_digit c = nat_le 48 c && nat_le c 57

-- decimal digits without sign or leading zero
abbrev pub is_numeral : List ℕ → Bool
is_numeral [] = false
is_numeral (c ∷ cs) = (not (c == 48) || is_empty cs) && list_all is_digit (c ∷ cs)

-- the number that they write
abbrev pub value_of : List ℕ → ℕ
value_of word = fold (λ (n : ℕ) (c : ℕ). n * 10 + (c - 48)) 0 word

-- the number of 32 bits that a word is
abbrev pub number_of : List ℕ → Option ℕ
number_of word = if is_numeral word && nat_lt (value_of word) (2 ^ 32) then Some (value_of word) else None
