-- The bytes of a text as pairs.
use Rattle.std.proofs.Common.{◌≡◌, ℕ, zero, suc, ◌+◌, ◌*◌, ◌<◌, ◌≤◌, List, [], ◌∷◌, drop, length, slice_index}
use Rattle.std.proofs.Common.{slice_index_or, refl, ◌∙◌, arith}
use Rattle.std.specs.Simd.{first_chunks}

-- the bytes from the i-th of these pairs on are that pair and the bytes behind it
abbrev pub Splits : ℕ → List ℕ → List (List ℕ) → Type 0
Splits i b pairs =
    let pair = slice_index_or pairs i [] in
    drop (2 * i) b ≡ slice_index pair 0 ∷ slice_index pair 1 ∷ drop (2 * (i + 1)) b

pub pair_at : (i k : ℕ) (b : List ℕ) → i < k → 2 * k ≤ length b → Splits i b (first_chunks 2 k b)
pair_at i zero b lt room = absurd (omega arith)
pair_at i (suc k) [] lt room = absurd (omega arith)
pair_at i (suc k) (x ∷ []) lt room = absurd (omega arith)
pair_at zero (suc k) (x ∷ y ∷ b) lt room = refl
pair_at (suc i) (suc k) (x ∷ y ∷ b) lt room =
    let twice : 2 * suc i ≡ suc (suc (2 * i)) = omega arith in
    let behind : suc (suc (2 * (i + 1))) ≡ 2 * (suc i + 1) = omega arith in
    let pair = slice_index_or (first_chunks 2 k b) i [] in
    (λ j. drop (twice j) (x ∷ y ∷ b)) ∙ pair_at i k b (omega arith) (omega arith)
    ∙ (λ j. slice_index pair 0 ∷ slice_index pair 1 ∷ drop (behind j) (x ∷ y ∷ b))
