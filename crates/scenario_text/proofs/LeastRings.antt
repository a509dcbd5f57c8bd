-- The least ring of a shift, where no ring is above 2^32.
use Rattle.std.proofs.Common.{◌≡◌, ℕ, ◌*◌, ◌^◌, ◌<◌, ◌≤◌, Bool, true, false, min, leb, nat_lt, sym, ap, ◌∙◌, refl}
use Rattle.std.proofs.Common.{arith}
use Rattle.std.proofs.lemmas.Bool.Decides.{nat_tests}
use Rattle.std.proofs.Math.Nat.{pow-le-pow_right}

-- a shift above 32 asks for no more than one of 32 does
pub same_least : (ring shift : ℕ) → ring < 2 ^ 32
    → nat_lt ring (256 * 2 ^ min shift 32) ≡ nat_lt ring (256 * 2 ^ shift)
same_least ring shift small = by_test (leb shift 32) refl
  where
    by_test : (b : Bool) → leb shift 32 ≡ b → nat_lt ring (256 * 2 ^ min shift 32) ≡ nat_lt ring (256 * 2 ^ shift)
    by_test true h =
        let same : min shift 32 ≡ shift = grind (arith, nat_tests, h) in
        ap (λ (k : ℕ). nat_lt ring (256 * 2 ^ k)) same
    by_test false h =
        let high : 32 ≤ shift = grind (arith, nat_tests, h) in
        let same : min shift 32 ≡ 32 = omega (arith, high) in
        let more : 2 ^ 32 ≤ 2 ^ shift = pow-le-pow_right (omega arith) high in
        ap (λ (k : ℕ). nat_lt ring (256 * 2 ^ k)) same
        ∙ (below ring (256 * 2 ^ 32) (omega (arith, small))
        ∙ sym (below ring (256 * 2 ^ shift) (omega (arith, small, more))))
      where
        below : (a b : ℕ) → a < b → nat_lt a b ≡ true
        below a b less = grind (arith, nat_tests, less)
