use Rattle.std.specs.Prelude.{◌==◌}
use Rattle.trace_audit.proofs.Firsts.{first_is_position}
use Rattle.report_picture.proofs.lines.place_of.Goals as goal

pub returns : goal.returns
returns c = first_is_position (λ x. x == c.args.byte) c.args.text.now c.memchr.result c.memchr.ensures
