use Rattle.std.proofs.Common.{arith, sym, ◌∙◌}
use Rattle.fast_tx.proofs.Told.{going_is, emission_is, piece_fits}
use Rattle.fast_tx.proofs.engine.emit_next.Goals as goal

pub send-sent-requires-clause-room : goal.send-sent-requires-clause-room
send-sent-requires-clause-room c =
    let fits = piece_fits c.args.parts.now c.in-Some.piece (sym c.next_piece.ensures ∙ c.in-Some.is) in
    omega (arith, fits, c.requires.room)

pub returns-in-Some-clause-made : goal.returns-in-Some-clause-made
returns-in-Some-clause-made c e v s =
    emission_is e c.in-Some.piece c.send-sent.new.parts c.send-sent.result c.send-sent.new.out
    (going_is c.args.parts.now e c.in-Some.piece v s (sym c.next_piece.ensures ∙ c.in-Some.is))
    (c.send-sent.ensures.made e v s)

pub returns-in-Some-clause-bytes : goal.returns-in-Some-clause-bytes
returns-in-Some-clause-bytes c =
    let fits = piece_fits c.args.parts.now c.in-Some.piece (sym c.next_piece.ensures ∙ c.in-Some.is) in
    omega (arith, fits, c.send-sent.ensures.len)
