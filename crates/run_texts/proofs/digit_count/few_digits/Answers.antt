use Rattle.itoa.proofs.Decimal.{length_one, length_two}
use Rattle.std.proofs.Common.{sym, arith}
use Rattle.run_texts.proofs.DigitCount.{three_digits, four_digits}
use Rattle.run_texts.proofs.digit_count.few_digits.Goals as goal

pub returns-then-number-lt10 : goal.returns-then-number-lt10
returns-then-number-lt10 c = sym (length_one c.args.number (omega arith))

pub returns-then-number-lt100 : goal.returns-then-number-lt100
returns-then-number-lt100 c = sym (length_two c.args.number (omega arith) (omega arith))

pub returns-then-number-lt1000 : goal.returns-then-number-lt1000
returns-then-number-lt1000 c = sym (three_digits c.args.number (omega arith) (omega arith))

pub returns-else-number-lt1000 : goal.returns-else-number-lt1000
returns-else-number-lt1000 c = sym (four_digits c.args.number (omega arith) (omega arith))
