-- Bytes past a gap, and those that they are joined to.
use Rattle.std.proofs.Common.{◌≡◌, ℕ, ◌+◌, ◌-◌, ◌<◌, ◌≤◌, List, [], ◌∷◌, ◌++◌, length, take, drop, min, refl, sym, ◌∙◌}
use Rattle.std.proofs.Common.{ap, subst, arith, length-append, length-drop, length-take}
use Rattle.std.proofs.lemmas.List.{drop-drop, take_at, drop_at, take-append-drop}
use Rattle.std.proofs.Math.Seq.{take-add}
use Rattle.payload_ring.specs.Window.{overlaid}
use Rattle.payload_ring.proofs.Windows.{dropped-overlaid, take-overlaid, drop-overlaid}

-- these bytes stand in the cells from the offset on
abbrev pub StandsAt : (cells : List ℕ) (from : ℕ) (bytes : List ℕ) → Type 0
StandsAt cells from bytes = take (length bytes) (drop from cells) ≡ bytes

-- two stretches, one behind the other
stands_both : (cells : List ℕ) (from next : ℕ) (xs ys : List ℕ) → from + length xs ≡ next → StandsAt cells from xs
    → StandsAt cells next ys → StandsAt cells from (xs ++ ys)
stands_both cells from next xs ys is one two =
    ap (λ (n : ℕ). take n (drop from cells)) (length-append xs ys)
    ∙ (take-add (length xs) (length ys) (drop from cells)
    ∙ (ap (λ (zs : List ℕ). zs ++ take (length ys) (drop (length xs) (drop from cells))) one
    ∙ ap (λ (zs : List ℕ). xs ++ zs) (ap (take (length ys)) (drop-drop (length xs) from cells
    ∙ ap (λ (n : ℕ). drop n cells) is) ∙ two)))

-- what is written stands there
stands_here : (cells : List ℕ) (at : ℕ) (p : List ℕ) → at + length p ≤ length cells
    → StandsAt (overlaid at p cells) at p
stands_here cells at p fits =
    let front : length (take at cells) ≡ at = omega (arith, length-take at cells) in
    ap (take (length p)) (drop_at (take at cells) (p ++ drop (at + length p) cells) at front)
    ∙ take_at p (drop (at + length p) cells) (length p) refl

-- what stands past it stays
stands_past : (cells : List ℕ) (at : ℕ) (p : List ℕ) (from : ℕ) (bytes : List ℕ) → at + length p ≤ length cells
    → at + length p ≤ from → StandsAt cells from bytes → StandsAt (overlaid at p cells) from bytes
stands_past cells at p from bytes fits past is =
    let n : ℕ = from - (at + length p) in
    let there : at + length p + n ≡ from = omega arith in
    let same : drop from (overlaid at p cells) ≡ drop from cells =
    ap (λ (k : ℕ). drop k (overlaid at p cells)) (sym there)
    ∙ (sym (drop-drop n (at + length p) (overlaid at p cells))
    ∙ (ap (drop n) (dropped-overlaid at p cells fits ∙ drop-drop (length p) at cells)
    ∙ (drop-drop n (at + length p) cells ∙ ap (λ (k : ℕ). drop k cells) there))) in
    ap (take (length bytes)) same ∙ is

-- and so does what stands before it
stands_before : (cells : List ℕ) (at : ℕ) (p : List ℕ) (from : ℕ) (bytes : List ℕ) → at ≤ length cells
    → from + length bytes ≤ at → StandsAt cells from bytes → StandsAt (overlaid at p cells) from bytes
stands_before cells at p from bytes fits before is =
    let inside : at - from ≤ length (drop from cells) = omega (arith, length-drop from cells) in
    ap (take (length bytes)) (drop-overlaid from at p cells (omega arith) fits)
    ∙ (take-overlaid (length bytes) (at - from) p (drop from cells) (omega arith) inside ∙ is)

-- nothing is written
overlaid_none : (cells : List ℕ) (at : ℕ) → overlaid at [] cells ≡ cells
overlaid_none cells at = ap (λ (k : ℕ). take at cells ++ drop k cells) (omega arith) ∙ take-append-drop at cells

length-overlaid : (cells : List ℕ) (at : ℕ) (p : List ℕ) → at + length p ≤ length cells
    → length (overlaid at p cells) ≡ length cells
length-overlaid cells at p fits =
    omega (
      arith,
      length-append (take at cells) (p ++ drop (at + length p) cells),
      length-append p (drop (at + length p) cells),
      length-take at cells,
      length-drop (at + length p) cells,
    )

-- with the bytes before the kept ones written
with_left : (cells : List ℕ) (first from : ℕ) (left bytes : List ℕ) → StandsAt cells first bytes
    → from + length left ≤ length cells
    → (0 < length left → from + length left ≡ first) → (length left ≡ 0 → first ≤ from)
    → StandsAt (overlaid from left cells) (min first from) (left ++ bytes)
with_left cells first from [] bytes is fits meets none =
    let at : min first from ≡ first = omega (arith, none refl) in
    subst (λ (xs : List ℕ). StandsAt xs (min first from) bytes) (sym (overlaid_none cells from))
    (subst (λ (k : ℕ). StandsAt cells k bytes) (sym at) is)
with_left cells first from (b ∷ left) bytes is fits meets none =
    let there : from + length (b ∷ left) ≡ first = meets (omega arith) in
    let at : min first from ≡ from = omega (arith, there) in
    subst (λ (k : ℕ). StandsAt (overlaid from (b ∷ left) cells) k ((b ∷ left) ++ bytes)) (sym at)
    (stands_both (overlaid from (b ∷ left) cells) from first (b ∷ left) bytes there
    (stands_here cells from (b ∷ left) fits)
    (stands_past cells from (b ∷ left) first bytes fits (omega (arith, there)) is))

-- with the bytes behind them written
with_right : (cells : List ℕ) (start last at : ℕ) (bytes right : List ℕ) → StandsAt cells start bytes
    → start + length bytes ≡ last → at + length right ≤ length cells
    → (0 < length right → at ≡ last) → StandsAt (overlaid at right cells) start (bytes ++ right)
with_right cells start last at bytes [] is end fits meets =
    subst (λ (xs : List ℕ). StandsAt xs start (bytes ++ [])) (sym (overlaid_none cells at))
    (stands_both cells start last bytes [] end is refl)
with_right cells start last at bytes (b ∷ right) is end fits meets =
    let there : at ≡ last = meets (omega arith) in
    let before : start + length bytes ≤ at = omega (arith, end, there) in
    stands_both (overlaid at (b ∷ right) cells) start last bytes (b ∷ right) end
    (stands_before cells at (b ∷ right) start bytes (omega arith) before is)
    (subst (λ (k : ℕ). StandsAt (overlaid at (b ∷ right) cells) k (b ∷ right)) there
    (stands_here cells at (b ∷ right) fits))

-- both
pub joined_stands : (cells : List ℕ) (first from last at : ℕ) (left bytes right : List ℕ) → StandsAt cells first bytes
    → first + length bytes ≡ last
    → from + length left ≤ length cells → at + length right ≤ length cells
    → (0 < length left → from + length left ≡ first) → (length left ≡ 0 → first ≤ from) → (0 < length right → at ≡ last)
    → StandsAt (overlaid at right (overlaid from left cells)) (min first from) ((left ++ bytes) ++ right)
joined_stands cells first from last at left bytes right is end fits fits' meets none follows =
    let one : StandsAt (overlaid from left cells) (min first from) (left ++ bytes) =
    with_left cells first from left bytes is fits meets none in
    let len : length (left ++ bytes) ≡ length left + length bytes = length-append left bytes in
    let stop : min first from + length (left ++ bytes) ≡ last = by_left left len meets none in
    let room : at + length right ≤ length (overlaid from left cells) =
    omega (arith, length-overlaid cells from left fits) in
    with_right (overlaid from left cells) (min first from) last at (left ++ bytes) right one stop room follows
  where
    by_left : (xs : List ℕ) → length (xs ++ bytes) ≡ length xs + length bytes
        → (0 < length xs → from + length xs ≡ first) → (length xs ≡ 0 → first ≤ from)
        → min first from + length (xs ++ bytes) ≡ last
    by_left [] n m z = omega (arith, z refl, end)
    by_left (x ∷ xs) n m z = let there : from + length (x ∷ xs) ≡ first = m (omega arith) in
        omega (arith, there, n, end)
