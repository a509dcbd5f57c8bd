use Rattle.std.proofs.Common.{◌∙◌}
use Rattle.fast_tx.proofs.Told.{tells, len_is, same_out}
use Rattle.fast_tx.specs.Going.{going_as}
use Rattle.fast_tx.proofs.emission.out_for.Goals as goal

pub returns-clause-segment : goal.returns-clause-segment
returns-clause-segment c e v s is =
    same_out c.head_for.result c.len_for.result (going_as c.args.piece e) (c.head_for.ensures e v s is)
    (c.len_for.ensures ∙ len_is c.args.parts.now e c.args.piece v s (tells c.args.parts.now e c.args.piece v s is))
