use Rattle.std.proofs.Common.{◌≡◌, Some, None, sym, ap, ◌∙◌}
use Rattle.fast_tx.specs.declared.emission.Out.{Out}
use Rattle.fast_tx.specs.Piece.{next_piece}
use Rattle.fast_tx.specs.Going.{next_out_of}
use Rattle.fast_tx.proofs.Told.{going_is, going_none}
use Rattle.fast_tx.proofs.emission.next_out.Goals as goal

pub returns-in-Some-clause-segment : goal.returns-in-Some-clause-segment
returns-in-Some-clause-segment c e v s =
    let is : next_piece c.args.parts.now ≡ Some c.in-Some.piece = sym c.next_piece.ensures ∙ c.in-Some.is in
    ap (λ (o : Out). Some o) (c.out_for.ensures.segment e v s is)
    ∙ sym (ap next_out_of (going_is c.args.parts.now e c.in-Some.piece v s is))

pub returns-in-None-clause-segment : goal.returns-in-None-clause-segment
returns-in-None-clause-segment c e v s =
    let is : next_piece c.args.parts.now ≡ None = sym c.next_piece.ensures ∙ c.in-None.is in
    sym (ap next_out_of (going_none c.args.parts.now e v s is))
