use Rattle.std.proofs.Common.{◌≡◌, ◌*◌, ◌++◌, take, drop}
use Rattle.report_lines.specs.Fronts.{bytes_in}
use Rattle.report_lines.proofs.hex.decode_rest.Given as goal

-- what was written and what is left are all bytes
abbrev pub invariant-bytes : goal.invariant-bytes
invariant-bytes l = take l.i l.bytes ++ bytes_in (drop (2 * l.i) l.digits) ≡ bytes_in l.digits
