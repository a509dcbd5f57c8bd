use Rattle.run_texts.proofs.Sixteen.{first_digits, second_digits}
use Rattle.run_texts.proofs.hex_digits.digits_of.Goals as goal

pub returns : goal.returns
returns c = record {
  first = first_digits c.args.bytes _ _ c.fits-bytes.0 c.high_digits.ensures c.low_digits.ensures;
  second = second_digits c.args.bytes _ _ c.fits-bytes.0 c.high_digits.ensures c.low_digits.ensures;
}
