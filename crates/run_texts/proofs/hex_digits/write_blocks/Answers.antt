use Rattle.std.proofs.Common.{arith}
use Rattle.run_texts.proofs.Sixteen.{sixteen_more}
use Rattle.run_texts.proofs.hex_digits.write_blocks.Goals as goal

pub sixteens-preserved : goal.sixteens-preserved
sixteens-preserved c = sixteen_more c.args.bytes.now c.sixteens.digits _ _ c.sixteens.block (omega arith)
    (omega arith) c.digits_of.ensures.first c.digits_of.ensures.second c.sixteens.invariant
