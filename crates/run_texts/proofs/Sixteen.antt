-- The digits of sixteen bytes at a time, made by vectors, which are the lists of their lanes.
use Rattle.std.proofs.Common.{◌≡◌, ℕ, ◌+◌, ◌*◌, ◌/◌, ◌%◌, ◌<◌, false, List, [], ◌∷◌, ◌++◌, length, map, take, drop}
use Rattle.std.proofs.Common.{take-append-drop, get_or, Fits, w8, refl, sym, ap, subst, ◌∙◌, append_assoc, arith}
use Rattle.std.specs.Fmt.{digit_glyph}
use Rattle.std.specs.Simd.Lanes.{Each1, chunk, pick_l, put_chunk}
use Rattle.std.proofs.lemmas.List.{ext_get_or, get_or-map, length-drop, length-map, length-take-le}
use Rattle.std.proofs.lemmas.List.FromFn.{get_or-map-range_with_len}
use Rattle.std.proofs.lemmas.Simd.{Each1-get_or, SwzOk, SwzOk-from_below, chunk-drop, get_or-swz_l_below, length-chunk}
use Rattle.std.proofs.lemmas.Simd.{length-put_chunk, length-swz_l, map-map, pick_l_whole, swz_l, take_more_put_chunk}
use Rattle.tas_runs.specs.Report.{hex_bytes}
use Rattle.run_texts.specs.declared.hex_digits.TheConstants.{GLYPHS}
use Rattle.run_texts.proofs.Writing.{hex_bytes-append}

-- what is known of the lanes of a vector of sixteen bytes
abbrev pub AreSixteen : List ℕ → Type 0
AreSixteen v = (length v ≡ 16) × Each1 (Fits w8) v

-- ----- the table
-- the halves of bytes are places of the table
halves_small : (half : ℕ → ℕ) (v : List ℕ) → ((b : ℕ) → b < 256 → half b < 16) → Each1 (Fits w8) v
    → Each1 (λ j. j < 16) (map half v)
halves_small half [] small fits = tt
halves_small half (b ∷ bs) small fits = (small b fits.0.fits, halves_small half bs small fits.1)

-- it has the digit of each number below 16
glyphs : (js : List ℕ) → length js ≡ 16 → Each1 (λ j. j < 16) js → swz_l w8 16 GLYPHS 0 js ≡ map (digit_glyph false) js
glyphs js long small =
    ext_get_or 0 _ _ (length-swz_l w8 16 GLYPHS 0 js ∙ sym (length-map js (digit_glyph false))) (λ i h.
    let lane : i < 16 = omega (arith, length-swz_l w8 16 GLYPHS 0 js) in
    let within : i < length js = omega arith in
    let below = Each1-get_or (λ j. j < 16) js i 0 within small in
    let place : 16 * ((0 + i) / 16) + get_or js i 0 ≡ get_or js i 0 = omega arith in
    get_or-swz_l_below w8 16 GLYPHS 0 js i within below
    ∙ ap (λ k. get_or GLYPHS k 0) place
    ∙ get_or-map-range_with_len (digit_glyph false) 0 16 (get_or js i 0) (get_or js i 0) 0 below (omega arith)
    ∙ sym (get_or-map (digit_glyph false) js i 0 0 within))

-- a half of each byte looked up: that this may be done, and what it gives
pub half_looked_up : (half : ℕ → ℕ) (v js : List ℕ) → AreSixteen v → ((b : ℕ) → b < 256 → half b < 16) → js ≡ map half v
    → SwzOk w8 16 16 0 js × (swz_l w8 16 GLYPHS 0 js ≡ map (λ b. digit_glyph false (half b)) v)
half_looked_up half v js sixteen small is =
    let below = halves_small half v small sixteen.1 in
    let long : length (map half v) ≡ 16 = length-map v half ∙ sixteen.0 in
    rw is (
      SwzOk-from_below w8 16 1 16 0 (map half v) refl (omega (arith, long)) below,
      glyphs (map half v) long below
          ∙ map-map (digit_glyph false) half v,
    )

-- ----- the weave
-- a lane of the one vector, the same lane of the other, and so on: the first half of that, and the second
abbrev first_woven : (high low : List ℕ) → List ℕ
first_woven high low = pick_l 0 (high ++ low) (0 ∷ 16 ∷ 1 ∷ 17 ∷ 2 ∷ 18 ∷ 3 ∷ 19 ∷ 4 ∷ 20 ∷ 5 ∷ 21 ∷ 6 ∷ 22 ∷ 7 ∷ 23
    ∷ [])

abbrev second_woven : (high low : List ℕ) → List ℕ
second_woven high low = pick_l 0 (high ++ low) (8 ∷ 24 ∷ 9 ∷ 25 ∷ 10 ∷ 26 ∷ 11 ∷ 27 ∷ 12 ∷ 28 ∷ 13 ∷ 29 ∷ 14 ∷ 30 ∷ 15
    ∷ 31 ∷ [])

abbrev high_digits : List ℕ → List ℕ
high_digits v = map (λ b. digit_glyph false (b / 16)) v

abbrev low_digits : List ℕ → List ℕ
low_digits v = map (λ b. digit_glyph false (b % 16)) v

-- each computes, once the sixteen lanes are written out
pub first_digits : (v high low : List ℕ) → length v ≡ 16 → high ≡ high_digits v → low ≡ low_digits v
    → first_woven high low ≡ hex_bytes (take 8 v)
first_digits v high low long h l = rw (h, l)
    (subst (λ (w : List ℕ). first_woven (high_digits w) (low_digits w) ≡ hex_bytes (take 8 w))
    (pick_l_whole 0 v 16 long) refl)

pub second_digits : (v high low : List ℕ) → length v ≡ 16 → high ≡ high_digits v → low ≡ low_digits v
    → second_woven high low ≡ hex_bytes (drop 8 v)
second_digits v high low long h l = rw (h, l)
    (subst (λ (w : List ℕ). second_woven (high_digits w) (low_digits w) ≡ hex_bytes (drop 8 w))
    (pick_l_whole 0 v 16 long) refl)

-- ----- the loop
length-hex_bytes : (xs : List ℕ) → length (hex_bytes xs) ≡ 2 * length xs
length-hex_bytes [] = refl
length-hex_bytes (x ∷ xs) = omega (arith, length-hex_bytes xs)

-- the digits of sixteen bytes more are written
pub sixteen_more : (bytes digits first second : List ℕ) (k : ℕ) → k < length bytes / 16
    → length digits ≡ 2 * length bytes → first ≡ hex_bytes (take 8 (chunk (16 * k) 16 bytes))
    → second ≡ hex_bytes (drop 8 (chunk (16 * k) 16 bytes)) → take (32 * k) digits ++ hex_bytes (drop (16 * k) bytes)
    ≡ hex_bytes bytes → take (32 * (k + 1)) (put_chunk (32 * k + 16) (put_chunk (32 * k) digits first) second)
    ++ hex_bytes (drop (16 * (k + 1)) bytes) ≡ hex_bytes bytes
sixteen_more bytes digits first second k below len ef es inv =
    let piece : List ℕ = chunk (16 * k) 16 bytes in
    let long : length piece ≡ 16 = length-chunk (16 * k) 16 bytes (omega arith) in
    let first_len : length first ≡ 16 = ap length ef ∙ length-hex_bytes (take 8 piece)
    ∙ omega (arith, length-take-le 8 piece (omega arith)) in
    let second_len : length second ≡ 16 = ap length es ∙ length-hex_bytes (drop 8 piece)
    ∙ omega (arith, length-drop 8 piece) in
    let one = take_more_put_chunk (32 * k) digits first (32 * k + 16) (omega arith) (omega arith) in
    let other = take_more_put_chunk (32 * k + 16) (put_chunk (32 * k) digits first) second (32 * (k + 1)) (omega arith)
    (omega (arith, length-put_chunk (32 * k) digits first)) in
    let both : first ++ second ≡ hex_bytes piece = rw (ef, es) (sym (hex_bytes-append (take 8 piece) (drop 8 piece))
    ∙ ap hex_bytes (take-append-drop 8 piece)) in
    let next : 16 * (k + 1) ≡ 16 * k + 16 = omega arith in
    let rest : hex_bytes (drop (16 * k) bytes) ≡ hex_bytes piece ++ hex_bytes (drop (16 * k + 16) bytes) = ap hex_bytes
    (chunk-drop (16 * k) 16 bytes) ∙ hex_bytes-append piece (drop (16 * k + 16) bytes) in
    rw (other, one, next, append_assoc (take (32 * k) digits) first second, both, append_assoc) (rw rest at inv)
