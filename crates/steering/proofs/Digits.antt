-- Numbers of four bits in a word.
use Rattle.std.proofs.Common.{◌≡◌, ℕ, zero, suc, ◌+◌, ◌-◌, ◌*◌, ◌/◌, ◌%◌, ◌^◌, ◌<◌, ◌≤◌, ◌∷◌, length, set, sym}
use Rattle.std.proofs.Common.{refl, ap, ◌∙◌, arith}
use Rattle.std.specs.Prelude.{slice_index, bit_or, bit_and}
use Rattle.std.specs.Int.Bits.{or_zero_l, or_zero_r, and_zero_r}
use Rattle.std.proofs.Math.Nat.{pow-succ', pow-suc, div-div-eq-div-mul, div-one, mod-eq_of_lt}
use Rattle.std.proofs.lemmas.Nat.{and_mask, and_mod, or_mod, and_shr, or_shr, pow-add, pow_pos}
use Rattle.steering.specs.Words.{digits}

-- four bits make 16
pub pow-four : (k : ℕ) → 2 ^ (4 * k) ≡ 16 ^ k
pow-four zero = refl
pow-four (suc k) =
    let e : 4 * suc k ≡ 4 * k + 4 = omega arith in
    ap (λ n. 2 ^ n) e ∙ (pow-add 2 (4 * k) 4 ∙ (ap (λ p. p * 16) (pow-four k) ∙ sym (pow-suc 16 k)))

pub digits-length : (n w : ℕ) → length (digits n w) ≡ n
unfolding digits
digits-length zero w = refl
digits-length (suc n) w = ap suc (digits-length n (w / 16))

pub digits_at : (n k w : ℕ) → k < n → slice_index (digits n w) k ≡ w / 16 ^ k % 16
unfolding digits
digits_at zero k w h = absurd (omega arith)
digits_at (suc n) zero w h = ap (λ x. x % 16) (sym (div-one w))
digits_at (suc n) (suc k) w h =
    digits_at n k (w / 16) (omega arith)
    ∙ ap (λ x. x % 16) (div-div-eq-div-mul w 16 (16 ^ k) ∙ ap (λ p. w / p) (sym (pow-succ' 16 k)))

pub digit-below : (n k w : ℕ) → k < n → slice_index (digits n w) k < 16
digit-below n k w h = let e = digits_at n k w h in omega arith

-- a word whose number at place k is taken out and replaced by d
abbrev pub replaced : ℕ → ℕ → ℕ → ℕ → ℕ
replaced n w k d = bit_or (bit_and w (16 ^ n - 1 - 15 * 16 ^ k)) (d * 16 ^ k)

lowest : (w m d : ℕ) → bit_or (bit_and w m) d % 16 ≡ bit_or (bit_and (w % 16) (m % 16)) (d % 16)
lowest w m d = or_mod (bit_and w m) d 4 ∙ ap (λ x. bit_or x (d % 16)) (and_mod w m 4)

others : (w m d : ℕ) → bit_or (bit_and w m) d / 16 ≡ bit_or (bit_and (w / 16) (m / 16)) (d / 16)
others w m d = or_shr (bit_and w m) d 4 ∙ ap (λ x. bit_or x (d / 16)) (and_shr w m 4)

all_ones : (n w : ℕ) → w < 16 ^ n → bit_and w (16 ^ n - 1) ≡ w
all_ones n w h = ap (λ p. bit_and w (p - 1)) (sym (pow-four n))
    ∙ (and_mask w (4 * n) ∙ (ap (λ p. w % p) (pow-four n) ∙ mod-eq_of_lt h))

pow_pos_16 : (k : ℕ) → 0 < 16 ^ k
pow_pos_16 k = let e = pow-four k in let p = pow_pos (4 * k) in omega arith

pub pow_le_16 : (k n : ℕ) → k < n → 16 * 16 ^ k ≤ 16 ^ n
pow_le_16 k zero h = absurd (omega arith)
pow_le_16 zero (suc n) h = let e = pow-succ' 16 n in let p = pow_pos_16 n in omega arith
pow_le_16 (suc k) (suc n) h = let e = pow-succ' 16 n in let f = pow-succ' 16 k in
    let r = pow_le_16 k n (omega arith) in omega arith

pub replaced_digits : (n k w d : ℕ) → k < n → w < 16 ^ n → d < 16 → digits n (replaced n w k d) ≡ set (digits n w) k d
unfolding digits
replaced_digits zero k w d h b s = absurd (omega arith)
replaced_digits (suc n) zero w d h b s =
    let p = 16 ^ n in
    let e : 16 ^ suc n ≡ 16 * 16 ^ n = pow-succ' 16 n in
    let pos : 0 < 16 ^ n = pow_pos_16 n in
    let m : ℕ = 16 ^ suc n - 1 - 15 * 16 ^ 0 in
    let low : m % 16 ≡ 0 = omega arith in
    let high : m / 16 ≡ 16 ^ n - 1 = omega arith in
    let d_low : (d * 16 ^ 0) % 16 ≡ d = omega arith in
    let d_high : (d * 16 ^ 0) / 16 ≡ 0 = omega arith in
    let first : replaced (suc n) w 0 d % 16 ≡ d =
    lowest w m (d * 16 ^ 0)
    ∙ ((λ i. bit_or (bit_and (w % 16) (low i)) (d_low i))
    ∙ (ap (λ x. bit_or x d) (and_zero_r (w % 16)) ∙ or_zero_l d)) in
    let rest : replaced (suc n) w 0 d / 16 ≡ w / 16 =
    others w m (d * 16 ^ 0)
    ∙ ((λ i. bit_or (bit_and (w / 16) (high i)) (d_high i))
    ∙ (or_zero_r (bit_and (w / 16) (16 ^ n - 1)) ∙ all_ones n (w / 16) (omega arith))) in
    λ i. first i ∷ digits n (rest i)
replaced_digits (suc n) (suc k) w d h b s =
    let e : 16 ^ suc n ≡ 16 * 16 ^ n = pow-succ' 16 n in
    let f : 16 ^ suc k ≡ 16 * 16 ^ k = pow-succ' 16 k in
    let fits : 16 * 16 ^ k ≤ 16 ^ n = pow_le_16 k n (omega arith) in
    let pos : 0 < 16 ^ k = pow_pos_16 k in
    let m : ℕ = 16 ^ suc n - 1 - 15 * 16 ^ suc k in
    let m' : ℕ = 16 ^ n - 1 - 15 * 16 ^ k in
    let low : m % 16 ≡ 15 = omega arith in
    let high : m / 16 ≡ m' = omega arith in
    let dd : d * 16 ^ suc k ≡ 16 * (d * 16 ^ k) = ap (λ p. d * p) f ∙ turned d (16 ^ k) in
    let d_low : (d * 16 ^ suc k) % 16 ≡ 0 = omega arith in
    let d_high : (d * 16 ^ suc k) / 16 ≡ d * 16 ^ k = omega arith in
    let first : replaced (suc n) w (suc k) d % 16 ≡ w % 16 =
    lowest w m (d * 16 ^ suc k)
    ∙ ((λ i. bit_or (bit_and (w % 16) (low i)) (d_low i))
    ∙ (or_zero_r (bit_and (w % 16) 15) ∙ (and_mask (w % 16) 4 ∙ mod-eq_of_lt (omega arith)))) in
    let rest : replaced (suc n) w (suc k) d / 16 ≡ replaced n (w / 16) k d =
    others w m (d * 16 ^ suc k) ∙ (λ i. bit_or (bit_and (w / 16) (high i)) (d_high i)) in
    λ i. first i ∷ (ap (digits n) rest ∙ replaced_digits n k (w / 16) d (omega arith) (omega arith) s) i
  where
    turned : (d p : ℕ) → d * (16 * p) ≡ 16 * (d * p)
    turned d p = omega arith
