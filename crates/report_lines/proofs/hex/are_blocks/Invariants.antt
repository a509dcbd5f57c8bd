use Rattle.std.proofs.Common.{◌≡◌, ◌*◌, ◌++◌, take, drop}
use Rattle.report_lines.specs.Fronts.{bytes_in}
use Rattle.report_lines.proofs.hex.are_blocks.Given as goal

-- what was seen and what is left are all bytes
abbrev pub invariant-sixteens : goal.invariant-sixteens
invariant-sixteens l = take (16 * l.block) l.bytes ++ bytes_in (drop (32 * l.block) l.digits) ≡ bytes_in l.digits
