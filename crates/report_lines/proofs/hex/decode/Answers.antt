use Rattle.std.proofs.Common.{◌*◌, ◌/◌, length, sym, arith}
use Rattle.report_lines.proofs.HexVectors.{bytes_parted}
use Rattle.report_lines.proofs.hex.decode.Goals as goal

pub returns : goal.returns
returns c =
    rw (c.decode_blocks.ensures, c.decode_rest.ensures, c.split_at.ensures.front, c.split_at.ensures.back)
    (sym (bytes_parted c.args.digits.now (length c.args.bytes.now / 16 * 16) (omega arith)))
