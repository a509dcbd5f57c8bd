use Rattle.std.proofs.Common.{◌++◌}
use Rattle.report_lines.proofs.HexVectors.{two_long, evens_hex, odds_hex, joined_lanes}
use Rattle.report_lines.proofs.hex.bytes_of.Goals as goal

pub values_of-requires : goal.values_of-requires
values_of-requires c =
    evens_hex (c.args.first ++ c.args.second)
    (two_long c.args.first c.args.second c.fits-first.0 c.fits-second.0) c.requires

pub values_of-requires-2 : goal.values_of-requires-2
values_of-requires-2 c =
    odds_hex (c.args.first ++ c.args.second)
    (two_long c.args.first c.args.second c.fits-first.0 c.fits-second.0) c.requires

pub returns : goal.returns
returns c =
    joined_lanes (c.args.first ++ c.args.second) c.values_of.result c.values_of-2.result
    (two_long c.args.first c.args.second c.fits-first.0 c.fits-second.0) c.values_of.ensures c.values_of-2.ensures
