-- Windows in units of 2^rs bytes, where no window is above 2^32.
use Rattle.std.proofs.Common.{◌≡◌, ℕ, ◌*◌, ◌/◌, ◌^◌, ◌<◌, ◌≤◌, Bool, true, false, min, leb, refl, sym, ap, ◌∙◌, arith}
use Rattle.std.proofs.lemmas.Bool.Decides.{nat_tests}
use Rattle.std.proofs.lemmas.Nat.{div_below}
use Rattle.std.proofs.Math.Nat.{pow-le-pow_right, div-le_of_le-mul}

-- a shift above 32 is as good as 32 to what is below 2^32
pub most_room : (room rs : ℕ) → room < 2 ^ 32 → min room (65535 * 2 ^ min rs 32) ≡ min room (65535 * 2 ^ rs)
most_room room rs small = by_test (leb rs 32) refl
  where
    by_test : (b : Bool) → leb rs 32 ≡ b → min room (65535 * 2 ^ min rs 32) ≡ min room (65535 * 2 ^ rs)
    by_test true h =
        let same : min rs 32 ≡ rs = grind (arith, nat_tests, h) in
        ap (λ (k : ℕ). min room (65535 * 2 ^ k)) same
    by_test false h =
        let high : 32 ≤ rs = grind (arith, nat_tests, h) in
        let same : min rs 32 ≡ 32 = omega (arith, high) in
        let more : 2 ^ 32 ≤ 2 ^ rs = pow-le-pow_right (omega arith) high in
        let left : min room (65535 * 2 ^ 32) ≡ room = omega (arith, small) in
        let right : min room (65535 * 2 ^ rs) ≡ room = omega (arith, small, more) in
        ap (λ (k : ℕ). min room (65535 * 2 ^ k)) same ∙ (left ∙ sym right)

none_left : (w d : ℕ) → w < d → w / d ≡ 0
none_left w d less =
    let below : w / d < 1 = div_below w d 1 (omega (arith, less)) (omega (arith, less)) in
    omega (arith, below)

pub same_field : (w rs : ℕ) → w < 2 ^ 32 → w / 2 ^ min rs 32 ≡ w / 2 ^ rs
same_field w rs small = by_test (leb rs 32) refl
  where
    by_test : (b : Bool) → leb rs 32 ≡ b → w / 2 ^ min rs 32 ≡ w / 2 ^ rs
    by_test true h =
        let same : min rs 32 ≡ rs = grind (arith, nat_tests, h) in
        ap (λ (k : ℕ). w / 2 ^ k) same
    by_test false h =
        let high : 32 ≤ rs = grind (arith, nat_tests, h) in
        let same : min rs 32 ≡ 32 = omega (arith, high) in
        let more : 2 ^ 32 ≤ 2 ^ rs = pow-le-pow_right (omega arith) high in
        ap (λ (k : ℕ). w / 2 ^ k) same
        ∙ (none_left w (2 ^ 32) small ∙ sym (none_left w (2 ^ rs) (omega (arith, small, more))))

-- the field of a window fits into 16 bits
pub field_fits : (room rs : ℕ) → min room (65535 * 2 ^ rs) / 2 ^ rs ≤ 65535
field_fits room rs =
    let most : min room (65535 * 2 ^ rs) ≤ 65535 * 2 ^ rs = omega arith in
    div-le_of_le-mul (2 ^ rs) (turned (min room (65535 * 2 ^ rs)) (2 ^ rs) most)
  where
    turned : (w p : ℕ) → w ≤ 65535 * p → w ≤ p * 65535
    turned w p most = omega (arith, most)
