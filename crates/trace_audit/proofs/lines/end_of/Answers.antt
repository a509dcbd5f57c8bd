use Rattle.std.specs.Prelude.{◌==◌}
use Rattle.trace_audit.proofs.Firsts.{first_is_position}
use Rattle.trace_audit.proofs.lines.end_of.Goals as goal

pub returns : goal.returns
returns c = first_is_position (λ x. x == 10) c.args.text.now c.memchr.result c.memchr.ensures
