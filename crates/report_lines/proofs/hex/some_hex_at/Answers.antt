use Rattle.report_lines.specs.Fronts.{is_hex}
use Rattle.report_lines.proofs.Texts.{run_passes}
use Rattle.report_lines.proofs.hex.some_hex_at.Goals as goal

pub of-requires : goal.of-requires
of-requires c = rw (c.split_at.ensures.front, c.digits_in.ensures.count) (run_passes is_hex c.args.text.now)
