use Rattle.std.proofs.Common.{sym, ◌∙◌}
use Rattle.fast_tx.specs.Going.{going_as}
use Rattle.fast_tx.proofs.Ends.{left_falls}
use Rattle.fast_tx.proofs.Told.{going_is, next_gone}
use Rattle.fast_tx.proofs.emission.emit.Goals as goal

pub returns-clause-made : goal.returns-clause-made
returns-clause-made c e v s =
    next_gone e c.in-Some.piece c.send.new.parts c.send.result c.send.new.out
    (going_is c.args.parts.now e c.in-Some.piece v s (sym c.next_piece.ensures ∙ c.in-Some.is))
    (c.send.ensures.made e v s)

pub returns-clause-falls : goal.returns-clause-falls
returns-clause-falls c e v s =
    left_falls c.args.parts.now c.send.new.parts e (going_as c.in-Some.piece e) v s
    (going_is c.args.parts.now e c.in-Some.piece v s (sym c.next_piece.ensures ∙ c.in-Some.is))
    (c.send.ensures.made e v s).after
