use Rattle.std.proofs.Common.{◌≡◌, ◌*◌, ◌++◌, take, drop}
use Rattle.tas_runs.specs.Report.{hex_bytes}
use Rattle.run_texts.proofs.hex_digits.write_rest.Given as goal

abbrev pub invariant-bytes : goal.invariant-bytes
invariant-bytes l = take (2 * l.i) l.digits ++ hex_bytes (drop l.i l.bytes) ≡ hex_bytes l.bytes
