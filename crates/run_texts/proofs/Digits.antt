-- The digits of bytes, written two at a time.
use Rattle.std.proofs.Common.{◌≡◌, ℕ, ◌+◌, ◌*◌, ◌/◌, ◌%◌, ◌<◌, ◌≤◌, false, List, [], ◌∷◌, ◌++◌, length, take, drop}
use Rattle.std.proofs.Common.{slice_index, slice_set, refl, arith}
use Rattle.std.proofs.lemmas.List.{append_assoc, append-nil, drop_all, drop_more, take_all, take_more_set, length-set}
use Rattle.std.specs.Fmt.{digit_glyph}
use Rattle.tas_runs.specs.Report.{hex_bytes}

-- two writes in a row, seen from the front
two_written : (xs : List ℕ) (o x y : ℕ) → o + 1 < length xs → take (o + 2) (slice_set (slice_set xs o x) (o + 1) y)
    ≡ take o xs ++ (x ∷ y ∷ [])
two_written xs o x y fits =
    let len : length (slice_set xs o x) ≡ length xs = length-set xs o x in
    let two : o + 2 ≡ o + 1 + 1 = omega arith in
    let second = take_more_set (slice_set xs o x) (o + 1) y (omega (arith, len)) in
    let first = take_more_set xs o x (omega arith) in
    rw (two, second, first) (append_assoc (take o xs) (x ∷ []) (y ∷ []))

-- the digits of what is left, from one byte on
from_byte : (xs : List ℕ) (i : ℕ) → i < length xs → hex_bytes (drop i xs) ≡ digit_glyph false (slice_index xs i / 16)
    ∷ digit_glyph false (slice_index xs i % 16) ∷ hex_bytes (drop (i + 1) xs)
from_byte xs i h = rw (drop_more xs i 0 h) refl

-- one byte's digits more are written
pub digits_step : (bytes digits : List ℕ) (i x y : ℕ) → i < length bytes → 2 * i + 1 < length digits
    → x ≡ digit_glyph false (slice_index bytes i / 16) → y ≡ digit_glyph false (slice_index bytes i % 16)
    → take (2 * i) digits ++ hex_bytes (drop i bytes) ≡ hex_bytes bytes
    → take (2 * (i + 1)) (slice_set (slice_set digits (2 * i) x) (2 * i + 1) y) ++ hex_bytes (drop (i + 1) bytes)
    ≡ hex_bytes bytes
digits_step bytes digits i x y h fits ex ey inv =
    let two : 2 * (i + 1) ≡ 2 * i + 2 = omega arith in
    let front = two_written digits (2 * i) x y fits in
    let rest = from_byte bytes i h in
    rw (two, front, append_assoc, ex, ey) (rw rest at inv)

-- all digits are written
pub digits_done : (bytes digits : List ℕ) (i : ℕ) → length bytes ≤ i → length digits ≡ 2 * length bytes
    → take (2 * i) digits ++ hex_bytes (drop i bytes) ≡ hex_bytes bytes → digits ≡ hex_bytes bytes
digits_done bytes digits i h len inv =
    let d = drop_all i bytes h in
    let a = take_all (2 * i) digits (omega (arith, h, len)) in
    rw (d, a, append-nil) at inv
