use Rattle.std.proofs.Common.{◌≡◌, ◌*◌, ◌++◌, take, drop}
use Rattle.tas_runs.specs.Report.{hex_bytes}
use Rattle.run_texts.proofs.hex_digits.write_blocks.Given as goal

abbrev pub invariant-sixteens : goal.invariant-sixteens
invariant-sixteens l = take (32 * l.block) l.digits ++ hex_bytes (drop (16 * l.block) l.bytes) ≡ hex_bytes l.bytes
