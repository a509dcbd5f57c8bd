use Rattle.report_lines.proofs.HexVectors.{worths}
use Rattle.report_lines.proofs.hex.values_of.Goals as goal

pub returns : goal.returns
returns c = worths c.args.digits 16 c.fits-digits.0 c.requires
