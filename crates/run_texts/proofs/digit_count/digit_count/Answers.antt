use Rattle.std.proofs.Common.{arith}
use Rattle.std.proofs.lemmas.Fmt.{length-decimal-le}
use Rattle.run_texts.proofs.DigitCount.{length_eight}
use Rattle.run_texts.proofs.digit_count.digit_count.Goals as goal

pub overflow_add-count : goal.overflow_add-count
overflow_add-count c =
    omega (
      arith,
      c.loop-left.invariant,
      length_eight c.loop-left.left c.loop-left-test.true c.loop-left.auto.left-fits.fits,
      length-decimal-le 20 c.args.number (omega arith) (omega arith) (omega arith),
    )

pub loop-left-preserved : goal.loop-left-preserved
loop-left-preserved c =
    omega (
      arith,
      c.loop-left.invariant,
      length_eight c.loop-left.left c.loop-left-test.true c.loop-left.auto.left-fits.fits,
    )

pub overflow_add-result : goal.overflow_add-result
overflow_add-result c =
    omega (
      arith,
      c.loop-left.invariant,
      c.few_digits.ensures,
      length-decimal-le 20 c.args.number (omega arith) (omega arith) (omega arith),
    )

pub overflow_add-result-else-left-lt10000 : goal.overflow_add-result-else-left-lt10000
overflow_add-result-else-left-lt10000 c =
    omega (
      arith,
      c.loop-left.invariant,
      c.more_digits.ensures,
      length-decimal-le 20 c.args.number (omega arith) (omega arith) (omega arith),
    )
