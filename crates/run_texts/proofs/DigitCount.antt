-- How many digits numbers have.
use Rattle.itoa.proofs.Decimal.{length_one, length_two, length_pair, length_four}
use Rattle.std.proofs.Common.{◌≡◌, ℕ, ◌+◌, ◌/◌, ◌^◌, ◌<◌, ◌≤◌, length, decimal, ap, arith}

pub three_digits : (n : ℕ) → 100 ≤ n → n < 1000 → length (decimal n) ≡ 3
three_digits n low high = omega (arith, length_pair n low (omega arith), length_one (n / 100) (omega arith))

pub four_digits : (n : ℕ) → 1000 ≤ n → n < 10000 → length (decimal n) ≡ 4
four_digits n low high =
    omega (arith, length_pair n (omega arith) (omega arith), length_two (n / 100) (omega arith) (omega arith))

-- what is left of a number without its last eight digits
pub length_eight : (n : ℕ) → 100000000 ≤ n → n < 2 ^ 64 → length (decimal n) ≡ length (decimal (n / 100000000)) + 8
length_eight n low high =
    let front : n / 10000 / 10000 ≡ n / 100000000 = omega arith in
    omega (
      arith,
      length_four n (omega arith) high,
      length_four (n / 10000) (omega arith) (omega arith),
      ap (λ (m : ℕ). length (decimal m)) front,
    )
