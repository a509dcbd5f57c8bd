-- The options of a TCP header, one behind the other (RFC 9293, sections 3.1 and 3.2; RFC 7323, section 2).
use Rattle.std.specs.Prelude.{⊤, ℕ, zero, suc, ◌-◌, ◌<◌, ◌≤◌, ◌==◌, ◌&&◌, ◌||◌, List, [], ◌∷◌, length, min, nat_lt}
use Rattle.std.specs.Prelude.{Option, Some, None, if◌then◌else◌}
use Rattle.segment_fields.specs.Bytes.{byte, half}
use Rattle.segment_fields.specs.declared.segment.FirstOption.{FirstOption}
use Rattle.segment_fields.specs.declared.segment.FirstOption.TheVariants.{Ends, Mss, Scale, Skips}

-- a shift as it is read: one above 14 is read as 14 (RFC 7323, section 2.3)
abbrev pub read_shift : ℕ → ℕ
read_shift shift = min shift 14

-- What the first option says. Kind 0 ends the list, kind 1 is one byte, and every other kind has a length byte, which
-- counts kind and length.
-- A length below 2, or past the end of the header, ends the list too.
abbrev pub option_at : List ℕ → FirstOption
option_at xs =
    if byte xs 0 == 0 then Ends
    else if byte xs 0 == 1 then Skips 1
    else if nat_lt (length xs) 2 || nat_lt (byte xs 1) 2 || nat_lt (length xs) (byte xs 1) then Ends
    else if byte xs 0 == 2 && byte xs 1 == 4 then Mss (half xs 2)
    else if byte xs 0 == 3 && byte xs 1 == 3 then Scale (read_shift (byte xs 2))
    else Skips (byte xs 1)

-- an option has a byte at least, and stands whole among these
abbrev pub IsInside : List ℕ → FirstOption → Type 0
IsInside xs Ends = ⊤
IsInside xs (Mss m) = 4 ≤ length xs
IsInside xs (Scale s) = 3 ≤ length xs
IsInside xs (Skips n) = (0 < n) × (n ≤ length xs)

-- All options that say something, past `skip` bytes of the option before.
abbrev pub options_past : (skip : ℕ) → List ℕ → List FirstOption
options_past skip [] = []
options_past (suc skip) (x ∷ xs) = options_past skip xs
options_past zero (x ∷ xs) = elim (option_at (x ∷ xs)) [
  | Ends ↦ []
  | Mss m ↦ Mss m ∷ options_past 3 xs
  | Scale s ↦ Scale s ∷ options_past 2 xs
  | Skips n ↦ options_past (n - 1) xs
]

-- the first MSS among them, and the first window scale: of each kind the first one counts
abbrev pub first_mss : List FirstOption → Option ℕ
first_mss [] = None
first_mss (Mss m ∷ rest) = Some m
first_mss (_ ∷ rest) = first_mss rest

abbrev pub first_scale : List FirstOption → Option ℕ
first_scale [] = None
first_scale (Scale s ∷ rest) = Some s
first_scale (_ ∷ rest) = first_scale rest
