use Rattle.std.proofs.Common.{arith}
use Rattle.report_lines.proofs.HexBytes.{all_written}
use Rattle.report_lines.proofs.hex.decode_rest.Goals as goal

pub returns : goal.returns
returns c = all_written c.args.digits.now c.bytes.bytes c.bytes.i (omega arith) (omega arith) c.bytes.invariant
