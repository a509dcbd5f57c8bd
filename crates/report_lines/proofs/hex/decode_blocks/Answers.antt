use Rattle.std.proofs.Common.{arith}
use Rattle.report_lines.proofs.HexVectors.{block_hex, block_written, blocks_done}
use Rattle.report_lines.proofs.hex.decode_blocks.Goals as goal

pub bytes_of-requires : goal.bytes_of-requires
bytes_of-requires c = block_hex c.args.digits.now c.sixteens.block c.requires.digits

pub sixteens-preserved : goal.sixteens-preserved
sixteens-preserved c =
    block_written c.args.digits.now c.sixteens.bytes c.bytes_of.result c.sixteens.block (omega arith) (omega arith)
    c.bytes_of.ensures c.sixteens.invariant

pub returns : goal.returns
returns c =
    blocks_done c.args.digits.now c.sixteens.bytes c.sixteens.block (omega arith) (omega arith) (omega arith)
    c.sixteens.invariant
