use Rattle.std.proofs.Common.{ℕ, length, ap, arith}
use Rattle.itoa.proofs.Decimal.{length_one}
use Rattle.run_texts.proofs.text.add_number.Goals as goal

pub push_digit-requires-clause-room : goal.push_digit-requires-clause-room
push_digit-requires-clause-room g c =
    omega (
      arith,
      c.requires.room,
      c.widened-wide.ensures.short,
      ap (length {A = ℕ}) c.widened-wide.ensures.same,
      length_one c.widened-wide.result c.if-wide-lt10.true,
    )
