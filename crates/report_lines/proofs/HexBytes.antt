-- The bytes of digits, one after the other.
use Rattle.std.proofs.Common.{◌≡◌, ℕ, ◌+◌, ◌*◌, ◌/◌, ◌≤◌, ◌<◌, List, [], ◌∷◌, ◌++◌, length, get_or, drop}
use Rattle.std.proofs.Common.{length-drop, take, take-append-drop, slice_set}
use Rattle.std.proofs.Common.{refl, sym, ap, ◌∙◌, arith, append_assoc}
use Rattle.std.proofs.lemmas.List.{append-nil, append_cancel_left, drop_more, take_all, take_more, take_more_set}
use Rattle.report_lines.specs.Fronts.{hex_value, bytes_in}

-- half as many as the digits
pub half_as_many : (digits : List ℕ) → length (bytes_in digits) ≡ length digits / 2
half_as_many [] = refl
half_as_many (a ∷ []) = refl
half_as_many (a ∷ b ∷ ds) =
    let more : length (bytes_in ds) ≡ length ds / 2 = half_as_many ds in
    omega (arith, more)

-- one byte more
pub one_byte : (digits done all : List ℕ) (i byte : ℕ) → i < length digits / 2
    → byte ≡ hex_value (get_or digits (2 * i) 0) * 16 + hex_value (get_or digits (2 * i + 1) 0)
    → done ++ bytes_in (drop (2 * i) digits) ≡ all → (done ++ byte ∷ []) ++ bytes_in (drop (2 * (i + 1)) digits) ≡
    all
one_byte digits done all i byte h is so_far =
    let first : drop (2 * i) digits ≡ get_or digits (2 * i) 0 ∷ drop (2 * i + 1) digits =
    drop_more digits (2 * i) 0 (omega (arith, h)) in
    let second : drop (2 * i + 1) digits ≡ get_or digits (2 * i + 1) 0 ∷ drop (2 * i + 1 + 1) digits =
    drop_more digits (2 * i + 1) 0 (omega (arith, h)) in
    let two : 2 * (i + 1) ≡ 2 * i + 1 + 1 = omega arith in
    let here : bytes_in (drop (2 * i) digits) ≡ byte ∷ bytes_in (drop (2 * i + 1 + 1) digits) =
    ap bytes_in (first ∙ ap (λ (ds : List ℕ). get_or digits (2 * i) 0 ∷ ds) second)
    ∙ ap (λ (b : ℕ). b ∷ bytes_in (drop (2 * i + 1 + 1) digits)) (sym is) in
    append_assoc done (byte ∷ []) (bytes_in (drop (2 * (i + 1)) digits))
    ∙ (ap (λ (n : ℕ). done ++ (byte ∷ bytes_in (drop n digits))) two
    ∙ (ap (λ (w : List ℕ). done ++ w) (sym here) ∙ so_far))

-- all of them
nothing_left : (digits : List ℕ) → length digits ≤ 1 → bytes_in digits ≡ []
nothing_left [] h = refl
nothing_left (a ∷ []) h = refl
nothing_left (a ∷ b ∷ ds) h = absurd (omega (arith, h))

pub all_bytes : (digits done all : List ℕ) (i : ℕ) → length digits / 2 ≤ i
    → done ++ bytes_in (drop (2 * i) digits) ≡ all
    → done ≡ all
all_bytes digits done all i h so_far =
    let short : length (drop (2 * i) digits) ≤ 1 = omega (arith, h, length-drop (2 * i) digits) in
    sym (append-nil done) ∙ (ap (λ (w : List ℕ). done ++ w) (sym (nothing_left (drop (2 * i) digits) short))
    ∙ so_far)

-- the same, where they are written one after the other
pub one_written : (digits bytes : List ℕ) (i byte : ℕ) → i < length digits / 2 → i < length bytes
    → byte ≡ hex_value (get_or digits (2 * i) 0) * 16 + hex_value (get_or digits (2 * i + 1) 0)
    → take i bytes ++ bytes_in (drop (2 * i) digits) ≡ bytes_in digits
    → take (i + 1) (slice_set bytes i byte) ++ bytes_in (drop (2 * (i + 1)) digits) ≡ bytes_in digits
one_written digits bytes i byte h fits is so_far = rw (take_more_set bytes i byte fits)
    (one_byte digits (take i bytes) (bytes_in digits) i byte h is so_far)

pub all_written : (digits bytes : List ℕ) (i : ℕ) → length digits / 2 ≤ i → length bytes ≡ length digits / 2
    → take i bytes ++ bytes_in (drop (2 * i) digits) ≡ bytes_in digits → bytes ≡ bytes_in digits
all_written digits bytes i h long so_far =
    sym (take_all i bytes (omega (arith, h, long))) ∙ all_bytes digits (take i bytes) (bytes_in digits) i h so_far

-- one byte more is the same
pub one_same : (digits bytes : List ℕ) (i byte : ℕ) → i < length digits / 2 → i < length bytes
    → byte ≡ hex_value (get_or digits (2 * i) 0) * 16 + hex_value (get_or digits (2 * i + 1) 0)
    → get_or bytes i 0 ≡ byte → take i bytes ++ bytes_in (drop (2 * i) digits) ≡ bytes_in digits
    → take (i + 1) bytes ++ bytes_in (drop (2 * (i + 1)) digits) ≡ bytes_in digits
one_same digits bytes i byte h fits is same so_far = rw (take_more bytes i 0 fits)
    (one_byte digits (take i bytes) (bytes_in digits) i (get_or bytes i 0) h (same ∙ is) so_far)

-- it would be, if all were
pub one_differs : (digits bytes : List ℕ) (i byte : ℕ) → i < length digits / 2 → i < length bytes
    → byte ≡ hex_value (get_or digits (2 * i) 0) * 16 + hex_value (get_or digits (2 * i + 1) 0)
    → take i bytes ++ bytes_in (drop (2 * i) digits) ≡ bytes_in digits → bytes ≡ bytes_in digits
    → get_or bytes i 0 ≡ byte
one_differs digits bytes i byte h fits is so_far whole =
    let rest : drop i bytes ≡ bytes_in (drop (2 * i) digits) =
    append_cancel_left (take i bytes) (drop i bytes) (bytes_in (drop (2 * i) digits))
    (take-append-drop i bytes ∙ (whole ∙ sym so_far)) in
    let next : [] ++ bytes_in (drop (2 * i) digits) ≡ byte ∷ bytes_in (drop (2 * (i + 1)) digits) =
    sym (one_byte digits [] (bytes_in (drop (2 * i) digits)) i byte h is refl) in
    ap (λ (w : List ℕ). get_or w 0 0) (sym (drop_more bytes i 0 fits) ∙ (rest ∙ next))
