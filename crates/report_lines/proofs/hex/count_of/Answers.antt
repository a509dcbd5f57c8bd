use Rattle.std.proofs.Common.{sym}
use Rattle.report_lines.proofs.HexBytes.{half_as_many}
use Rattle.report_lines.proofs.hex.count_of.Goals as goal

pub returns : goal.returns
returns c = sym (half_as_many c.args.digits.now)
