use Rattle.itoa.proofs.Decimal.{length_one, length_two, length_four}
use Rattle.std.proofs.Common.{ℕ, ◌/◌, arith}
use Rattle.run_texts.proofs.DigitCount.{three_digits, four_digits}
use Rattle.run_texts.proofs.digit_count.more_digits.Goals as goal

pub returns-then-number-lt100000 : goal.returns-then-number-lt100000
returns-then-number-lt100000 c =
    let n : ℕ = c.args.number in
    omega (arith, length_four n (omega arith) (omega arith), length_one (n / 10000) (omega arith))

pub returns-then-number-lt1000000 : goal.returns-then-number-lt1000000
returns-then-number-lt1000000 c =
    let n : ℕ = c.args.number in
    omega (arith, length_four n (omega arith) (omega arith), length_two (n / 10000) (omega arith) (omega arith))

pub returns-then-number-lt10000000 : goal.returns-then-number-lt10000000
returns-then-number-lt10000000 c =
    let n : ℕ = c.args.number in
    omega (arith, length_four n (omega arith) (omega arith), three_digits (n / 10000) (omega arith) (omega arith))

pub returns-else-number-lt10000000 : goal.returns-else-number-lt10000000
returns-else-number-lt10000000 c =
    let n : ℕ = c.args.number in
    omega (arith, length_four n (omega arith) (omega arith), four_digits (n / 10000) (omega arith) (omega arith))
