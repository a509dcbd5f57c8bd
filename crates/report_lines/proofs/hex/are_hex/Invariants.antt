use Rattle.std.proofs.Common.{◌≡◌, ◌&&◌, drop}
use Rattle.std.specs.List.{list_all}
use Rattle.report_lines.specs.Fronts.{is_hex}
use Rattle.report_lines.proofs.hex.are_hex.Given as goal

abbrev pub invariant-bytes : goal.invariant-bytes
invariant-bytes l = list_all is_hex l.text ≡ (l.all && list_all is_hex (drop l.i l.text))
