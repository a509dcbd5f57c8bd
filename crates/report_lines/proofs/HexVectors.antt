-- The bytes of digits, sixteen at a time, made and compared by vectors, which are the lists of their lanes.
use Rattle.std.proofs.Common.{◌≡◌, ℕ, zero, suc, ◌+◌, ◌-◌, ◌*◌, ◌/◌, ◌%◌, ◌^◌, ◌<◌, ◌≤◌, Bool, true, false, not, cond}
use Rattle.std.proofs.Common.{eqb, ◌&&◌, List, [], ◌∷◌, ◌++◌, length, map, take, drop, take-append-drop, bit_and}
use Rattle.std.proofs.Common.{replicate, refl, sym, ap, subst, ◌∙◌, append_assoc, arith, w8}
use mir.Val.{bits, hbits}
use Rattle.std.specs.Str.{bytes_eq}
use Rattle.std.specs.List.{list_all}
use Rattle.std.specs.Simd.Lanes.{chunk, mask_l, pick_l, put_chunk, top, zip2}
use Rattle.std.proofs.Math.Seq.{take-add}
use Rattle.std.proofs.lemmas.Bool.{and_parts, eqb-true, eq-eqb}
use Rattle.std.proofs.lemmas.Bool.Decides.{nat_tests}
use Rattle.std.proofs.lemmas.List.{append_cancel_left, length-append, length-take-le, take_all, take_at}
use Rattle.std.proofs.lemmas.List.Folds.{list_all-append}
use Rattle.std.proofs.lemmas.Nat.{and_mask}
use Rattle.std.proofs.lemmas.Simd.{chunk-drop, length-chunk, length-zip2, mask_l-mod, pick_l_whole, take_more_put_chunk}
use Rattle.std.proofs.lemmas.Simd.{tops_compared}
use Rattle.report_lines.specs.Fronts.{is_hex, hex_value, bytes_in}
use Rattle.report_lines.proofs.HexBytes.{half_as_many, all_bytes}

-- ----- what digits are worth
-- the lower four bits, and 9 more for a letter
worth : (c : ℕ) → is_hex c ≡ true → (bit_and c 15 + (c / 2 ^ 6 * 9) % 2 ^ 8) % 2 ^ 8 ≡ hex_value c
worth c hex = let low : bit_and c 15 ≡ c % 16 = and_mask c 4 in rw low (grind (arith, nat_tests, hex))

pub worths : (v : List ℕ) (n : ℕ) → length v ≡ n → list_all is_hex v ≡ true
    → zip2 (λ a b. (a + b) % 2 ^ 8) (zip2 bit_and v (replicate n 15))
    (zip2 (λ a b. (a * b) % 2 ^ 8) (zip2 (λ a b. a / 2 ^ b) v (replicate n 6)) (replicate n 9)) ≡ map hex_value v
worths [] n long all = refl
worths (c ∷ cs) zero long all = absurd (omega (arith, long))
worths (c ∷ cs) (suc n) long all =
    let parts = and_parts (is_hex c) (list_all is_hex cs) all in
    let more = worths cs n (omega (arith, long)) parts.1 in
    cc (worth c parts.0, more)

-- ----- every other lane
abbrev evens : List ℕ
evens = 0 ∷ 2 ∷ 4 ∷ 6 ∷ 8 ∷ 10 ∷ 12 ∷ 14 ∷ 16 ∷ 18 ∷ 20 ∷ 22 ∷ 24 ∷ 26 ∷ 28 ∷ 30 ∷ []

abbrev odds : List ℕ
odds = 1 ∷ 3 ∷ 5 ∷ 7 ∷ 9 ∷ 11 ∷ 13 ∷ 15 ∷ 17 ∷ 19 ∷ 21 ∷ 23 ∷ 25 ∷ 27 ∷ 29 ∷ 31 ∷ []

abbrev firsts : List ℕ → List ℕ
firsts [] = []
firsts (a ∷ []) = []
firsts (a ∷ b ∷ v) = a ∷ firsts v

abbrev seconds : List ℕ → List ℕ
seconds [] = []
seconds (a ∷ []) = []
seconds (a ∷ b ∷ v) = b ∷ seconds v

firsts_picked : (v : List ℕ) → length v ≡ 32 → pick_l 0 v evens ≡ firsts v
firsts_picked v long = subst (λ (w : List ℕ). pick_l 0 w evens ≡ firsts w) (pick_l_whole 0 v 32 long) refl

seconds_picked : (v : List ℕ) → length v ≡ 32 → pick_l 0 v odds ≡ seconds v
seconds_picked v long = subst (λ (w : List ℕ). pick_l 0 w odds ≡ seconds w) (pick_l_whole 0 v 32 long) refl

firsts_hex : (v : List ℕ) → list_all is_hex v ≡ true → list_all is_hex (firsts v) ≡ true
firsts_hex [] all = refl
firsts_hex (a ∷ []) all = refl
firsts_hex (a ∷ b ∷ v) all =
    let first = and_parts (is_hex a) (list_all is_hex (b ∷ v)) all in
    let second = and_parts (is_hex b) (list_all is_hex v) first.1 in
    rw (first.0, firsts_hex v second.1) refl

seconds_hex : (v : List ℕ) → list_all is_hex v ≡ true → list_all is_hex (seconds v) ≡ true
seconds_hex [] all = refl
seconds_hex (a ∷ []) all = refl
seconds_hex (a ∷ b ∷ v) all =
    let first = and_parts (is_hex a) (list_all is_hex (b ∷ v)) all in
    let second = and_parts (is_hex b) (list_all is_hex v) first.1 in
    rw (second.0, seconds_hex v second.1) refl

pub evens_hex : (v : List ℕ) → length v ≡ 32 → list_all is_hex v ≡ true → list_all is_hex (pick_l 0 v evens) ≡ true
evens_hex v long all = ap (list_all is_hex) (firsts_picked v long) ∙ firsts_hex v all

pub odds_hex : (v : List ℕ) → length v ≡ 32 → list_all is_hex v ≡ true → list_all is_hex (pick_l 0 v odds) ≡ true
odds_hex v long all = ap (list_all is_hex) (seconds_picked v long) ∙ seconds_hex v all

-- ----- two digits a byte
value_small : (c : ℕ) → hex_value c < 16
value_small c = grind (arith, nat_tests)

joined : (v : List ℕ) (n : ℕ) → length v ≡ 2 * n
    → zip2 (λ a b. (a + b) % 2 ^ 8) (zip2 (λ a b. (a * 2 ^ b) % 2 ^ 8) (map hex_value (firsts v)) (replicate n 4))
    (map hex_value (seconds v)) ≡ bytes_in v
joined [] n long = refl
joined (a ∷ []) n long = absurd (omega (arith, long))
joined (a ∷ b ∷ v) zero long = absurd (omega (arith, long))
joined (a ∷ b ∷ v) (suc n) long =
    let high = value_small a in
    let low = value_small b in
    let here : (hex_value a * 2 ^ 4 % 2 ^ 8 + hex_value b) % 2 ^ 8 ≡ hex_value a * 16 + hex_value b =
    omega (arith, high, low) in
    let more = joined v n (omega (arith, long)) in
    cc (here, more)

pub joined_lanes : (v high low : List ℕ) → length v ≡ 32 → high ≡ map hex_value (pick_l 0 v evens)
    → low ≡ map hex_value (pick_l 0 v odds)
    → zip2 (λ a b. (a + b) % 2 ^ 8) (zip2 (λ a b. (a * 2 ^ b) % 2 ^ 8) high (replicate 16 4)) low ≡ bytes_in v
joined_lanes v high low long h l =
    let first : high ≡ map hex_value (firsts v) = h ∙ ap (map hex_value) (firsts_picked v long) in
    let second : low ≡ map hex_value (seconds v) = l ∙ ap (map hex_value) (seconds_picked v long) in
    rw (first, second) (joined v 16 long)

pub two_long : (first second : List ℕ) → length first ≡ 16 → length second ≡ 16 → length (first ++ second) ≡ 32
two_long first second one other = length-append first second ∙ omega (arith, one, other)

-- ----- blocks of digits
-- those of sixteen bytes
abbrev pub block : (k : ℕ) → List ℕ → List ℕ
block k digits = chunk (32 * k) 16 digits ++ chunk (32 * k + 16) 16 digits

block_long : (digits : List ℕ) (k : ℕ) → 32 * k + 32 ≤ length digits → length (block k digits) ≡ 32
block_long digits k fits =
    two_long (chunk (32 * k) 16 digits) (chunk (32 * k + 16) 16 digits)
    (length-chunk (32 * k) 16 digits (omega (arith, fits))) (length-chunk (32 * k + 16) 16 digits (omega (arith, fits)))

block_first : (digits : List ℕ) (k : ℕ) → drop (32 * k) digits ≡ block k digits ++ drop (32 * (k + 1)) digits
block_first digits k =
    let next : 32 * k + 16 + 16 ≡ 32 * (k + 1) = omega arith in
    chunk-drop (32 * k) 16 digits
    ∙ (ap (λ (w : List ℕ). chunk (32 * k) 16 digits ++ w) (chunk-drop (32 * k + 16) 16 digits
    ∙ ap (λ (n : ℕ). chunk (32 * k + 16) 16 digits ++ drop n digits) next)
    ∙ sym (append_assoc (chunk (32 * k) 16 digits) (chunk (32 * k + 16) 16 digits) (drop (32 * (k + 1)) digits)))

pub part_hex : (n : ℕ) (digits : List ℕ) → list_all is_hex digits ≡ true
    → (list_all is_hex (take n digits) ≡ true) × (list_all is_hex (drop n digits) ≡ true)
part_hex n digits all = and_parts _ _ (sym (list_all-append is_hex (take n digits) (drop n digits))
    ∙ (ap (list_all is_hex) (take-append-drop n digits) ∙ all))

pub block_hex : (digits : List ℕ) (k : ℕ) → list_all is_hex digits ≡ true → list_all is_hex (block k digits) ≡ true
block_hex digits k all = (and_parts _ _ (sym (list_all-append is_hex (block k digits) (drop (32 * (k + 1)) digits))
    ∙ (ap (list_all is_hex) (sym (block_first digits k)) ∙ (part_hex (32 * k) digits all).1))).0

bytes-append : (xs ys : List ℕ) (n : ℕ) → length xs ≡ 2 * n → bytes_in (xs ++ ys) ≡ bytes_in xs ++ bytes_in ys
bytes-append [] ys n long = refl
bytes-append (a ∷ []) ys n long = absurd (omega (arith, long))
bytes-append (a ∷ b ∷ xs) ys zero long = absurd (omega (arith, long))
bytes-append (a ∷ b ∷ xs) ys (suc n) long =
    ap (λ (w : List ℕ). (hex_value a * 16 + hex_value b) ∷ w) (bytes-append xs ys n (omega (arith, long)))

pub bytes_parted : (digits : List ℕ) (n : ℕ) → 2 * n ≤ length digits
    → bytes_in digits ≡ bytes_in (take (2 * n) digits) ++ bytes_in (drop (2 * n) digits)
bytes_parted digits n fits = sym (ap bytes_in (take-append-drop (2 * n) digits))
    ∙ bytes-append (take (2 * n) digits) (drop (2 * n) digits) n (length-take-le (2 * n) digits fits)

block_bytes : (digits : List ℕ) (k : ℕ) → 32 * k + 32 ≤ length digits
    → bytes_in (drop (32 * k) digits) ≡ bytes_in (block k digits) ++ bytes_in (drop (32 * (k + 1)) digits)
block_bytes digits k fits = ap bytes_in (block_first digits k)
    ∙ bytes-append (block k digits) (drop (32 * (k + 1)) digits) 16 (block_long digits k fits)

pub sixteen : (digits : List ℕ) (k : ℕ) → 32 * k + 32 ≤ length digits → length (bytes_in (block k digits)) ≡ 16
sixteen digits k fits = half_as_many (block k digits) ∙ ap (λ (n : ℕ). n / 2) (block_long digits k fits)

-- ----- a block more is written
pub block_written : (digits bytes lanes : List ℕ) (k : ℕ) → k < length bytes / 16
    → length digits ≡ 2 * length bytes → lanes ≡ bytes_in (block k digits)
    → take (16 * k) bytes ++ bytes_in (drop (32 * k) digits) ≡ bytes_in digits
    → take (16 * (k + 1)) (put_chunk (16 * k) bytes lanes) ++ bytes_in (drop (32 * (k + 1)) digits)
    ≡ bytes_in digits
block_written digits bytes lanes k below long is so_far =
    let fits : 32 * k + 32 ≤ length digits = omega (arith, below, long) in
    let many : length lanes ≡ 16 = ap length is ∙ sixteen digits k fits in
    let put = take_more_put_chunk (16 * k) bytes lanes (16 * (k + 1)) (omega (arith, many)) (omega (arith, below)) in
    ap (λ (w : List ℕ). w ++ bytes_in (drop (32 * (k + 1)) digits)) put
    ∙ (append_assoc (take (16 * k) bytes) lanes (bytes_in (drop (32 * (k + 1)) digits))
    ∙ (ap (λ (w : List ℕ). take (16 * k) bytes ++ w)
    (ap (λ (w : List ℕ). w ++ bytes_in (drop (32 * (k + 1)) digits)) is ∙ sym (block_bytes digits k fits)) ∙ so_far))

-- all are written, or were seen
pub blocks_done : (digits bytes : List ℕ) (k : ℕ) → length bytes / 16 ≤ k → length bytes % 16 ≡ 0
    → length digits ≡ 2 * length bytes → take (16 * k) bytes ++ bytes_in (drop (32 * k) digits) ≡ bytes_in digits
    → bytes ≡ bytes_in digits
blocks_done digits bytes k over whole long so_far =
    let past : length bytes ≤ 16 * k = omega (arith, over, whole) in
    let twice : 2 * (16 * k) ≡ 32 * k = omega arith in
    sym (take_all (16 * k) bytes past)
    ∙ all_bytes digits (take (16 * k) bytes) (bytes_in digits) (16 * k) (omega (arith, past, long))
    (ap (λ (n : ℕ). take (16 * k) bytes ++ bytes_in (drop n digits)) twice ∙ so_far)

-- ----- a block more is the same
pub block_same : (digits bytes lanes : List ℕ) (k : ℕ) → k < length bytes / 16
    → length digits ≡ 2 * length bytes → lanes ≡ bytes_in (block k digits) → lanes ≡ chunk (16 * k) 16 bytes
    → take (16 * k) bytes ++ bytes_in (drop (32 * k) digits) ≡ bytes_in digits
    → take (16 * (k + 1)) bytes ++ bytes_in (drop (32 * (k + 1)) digits) ≡ bytes_in digits
block_same digits bytes lanes k below long is same so_far =
    let fits : 32 * k + 32 ≤ length digits = omega (arith, below, long) in
    let next : 16 * (k + 1) ≡ 16 * k + 16 = omega arith in
    ap (λ (n : ℕ). take n bytes ++ bytes_in (drop (32 * (k + 1)) digits)) next
    ∙ (ap (λ (w : List ℕ). w ++ bytes_in (drop (32 * (k + 1)) digits)) (take-add (16 * k) 16 bytes)
    ∙ (append_assoc (take (16 * k) bytes) (chunk (16 * k) 16 bytes) (bytes_in (drop (32 * (k + 1)) digits))
    ∙ (ap (λ (w : List ℕ). take (16 * k) bytes ++ w)
    (ap (λ (w : List ℕ). w ++ bytes_in (drop (32 * (k + 1)) digits)) (sym same ∙ is)
    ∙ sym (block_bytes digits k fits)) ∙ so_far)))

-- it would be, if all were
pub block_differs : (digits bytes lanes : List ℕ) (k : ℕ) → k < length bytes / 16
    → length digits ≡ 2 * length bytes → lanes ≡ bytes_in (block k digits)
    → take (16 * k) bytes ++ bytes_in (drop (32 * k) digits) ≡ bytes_in digits → bytes ≡ bytes_in digits
    → lanes ≡ chunk (16 * k) 16 bytes
block_differs digits bytes lanes k below long is so_far whole =
    let fits : 32 * k + 32 ≤ length digits = omega (arith, below, long) in
    let rest : drop (16 * k) bytes ≡ bytes_in (drop (32 * k) digits) =
    append_cancel_left (take (16 * k) bytes) (drop (16 * k) bytes) (bytes_in (drop (32 * k) digits))
    (take-append-drop (16 * k) bytes ∙ (whole ∙ sym so_far)) in
    is ∙ sym (ap (take 16) (rest ∙ block_bytes digits k fits)
    ∙ take_at (bytes_in (block k digits)) (bytes_in (drop (32 * (k + 1)) digits)) 16 (sixteen digits k fits))

-- ----- lanes that are compared
-- a bit for each pair that differs
abbrev differing : (xs ys : List ℕ) → ℕ
differing xs ys = mask_l (map (top (hbits w8)) (zip2 (λ a b. cond (not (eqb a b)) (2 ^ bits w8 - 1) 0) xs ys))

differs : (xs ys : List ℕ) → differing xs ys ≡ mask_l (zip2 (λ a b. not (eqb a b)) xs ys)
differs xs ys = ap mask_l (tops_compared w8 (λ a b. not (eqb a b)) xs ys)

by_test : (x y : ℕ) (xs ys : List ℕ) (n : ℕ) (t : Bool) → eqb x y ≡ t → cond (not t) 1 0 + 2 * n ≡ 0
    → (n ≡ 0 → xs ≡ ys) → x ∷ xs ≡ y ∷ ys
by_test x y xs ys n true e h more =
    let head : x ≡ y = eqb-true x y e in
    let others : xs ≡ ys = more (omega (arith, h)) in
    cc (head, others)
by_test x y xs ys n false e h more = absurd (omega (arith, h))

none_differ : (xs ys : List ℕ) → length xs ≡ length ys → mask_l (zip2 (λ a b. not (eqb a b)) xs ys) ≡ 0 → xs ≡ ys
none_differ [] [] long none = refl
none_differ [] (y ∷ ys) long none = absurd (omega (arith, long))
none_differ (x ∷ xs) [] long none = absurd (omega (arith, long))
none_differ (x ∷ xs) (y ∷ ys) long none = by_test x y xs ys (mask_l (zip2 (λ a b. not (eqb a b)) xs ys)) (eqb x y) refl
    none (λ h. none_differ xs ys (omega (arith, long)) h)

itself : (xs : List ℕ) → mask_l (zip2 (λ a b. not (eqb a b)) xs xs) ≡ 0
itself [] = refl
itself (x ∷ xs) = rw (eq-eqb x x refl, itself xs) refl

few : (xs ys : List ℕ) → length xs ≡ 16 → length ys ≡ 16 → differing xs ys % 2 ^ 64 ≡ differing xs ys
few xs ys one other = ap (λ (m : ℕ). m % 2 ^ 64) (differs xs ys)
    ∙ (mask_l-mod (zip2 (λ a b. not (eqb a b)) xs ys) 64
    (omega (arith, length-zip2 (λ a b. not (eqb a b)) xs ys (one ∙ sym other), one)) ∙ sym (differs xs ys))

pub lanes_same : (xs ys : List ℕ) → length xs ≡ 16 → length ys ≡ 16 → differing xs ys % 2 ^ 64 ≡ 0 → xs ≡ ys
lanes_same xs ys one other none =
    none_differ xs ys (one ∙ sym other) (sym (differs xs ys) ∙ (sym (few xs ys one other) ∙ none))

pub lanes_none : (xs ys : List ℕ) → length xs ≡ 16 → length ys ≡ 16 → xs ≡ ys → differing xs ys % 2 ^ 64 ≡ 0
lanes_none xs ys one other e = few xs ys one other ∙ (differs xs ys ∙ rw (sym e) (itself xs))

-- ----- bytes in two parts
both_same : (a b c : Bool) → (a && (b && c)) ≡ ((a && b) && c)
both_same true b c = refl
both_same false b c = refl

eq-append : (xs other ys others : List ℕ) → length xs ≡ length other
    → bytes_eq (xs ++ ys) (other ++ others) ≡ (bytes_eq xs other && bytes_eq ys others)
eq-append [] [] ys others long = refl
eq-append [] (o ∷ other) ys others long = absurd (omega (arith, long))
eq-append (x ∷ xs) [] ys others long = absurd (omega (arith, long))
eq-append (x ∷ xs) (o ∷ other) ys others long =
    ap (λ (t : Bool). eqb x o && t) (eq-append xs other ys others (omega (arith, long)))
    ∙ both_same (eqb x o) (bytes_eq xs other) (bytes_eq ys others)

eq_parted : (bytes digits : List ℕ) (n : ℕ) → n ≤ length bytes → length bytes ≡ length digits / 2
    → bytes_eq bytes (bytes_in digits)
    ≡ (bytes_eq (take n bytes) (bytes_in (take (2 * n) digits))
    && bytes_eq (drop n bytes) (bytes_in (drop (2 * n) digits)))
eq_parted bytes digits n fits long =
    let twice : 2 * n ≤ length digits = omega (arith, fits, long) in
    let first : length (take n bytes) ≡ length (bytes_in (take (2 * n) digits)) = length-take-le n bytes fits
    ∙ sym (half_as_many (take (2 * n) digits) ∙ omega (arith, length-take-le (2 * n) digits twice)) in
    ap (λ (w : List ℕ). bytes_eq w (bytes_in digits)) (sym (take-append-drop n bytes))
    ∙ (ap (λ (w : List ℕ). bytes_eq (take n bytes ++ drop n bytes) w) (bytes_parted digits n twice)
    ∙ eq-append (take n bytes) (bytes_in (take (2 * n) digits)) (drop n bytes) (bytes_in (drop (2 * n) digits)) first)

pub eq_of_parts : (bytes digits front back blocks rest : List ℕ) (n : ℕ) → n ≤ length bytes
    → length bytes ≡ length digits / 2 → front ≡ take n bytes → back ≡ drop n bytes → blocks ≡ take (2 * n) digits
    → rest ≡ drop (2 * n) digits
    → bytes_eq bytes (bytes_in digits) ≡ (bytes_eq front (bytes_in blocks) && bytes_eq back (bytes_in rest))
eq_of_parts bytes digits front back blocks rest n fits long f b d r =
    rw (f, b, d, r) (eq_parted bytes digits n fits long)
