use Rattle.fast_tx.proofs.Told.{has_gone}
use Rattle.fast_tx.proofs.emission.send.Goals as goal

pub returns-clause-made : goal.returns-clause-made
returns-clause-made c e v s =
    has_gone c.args.parts.now e c.args.piece c.move_past.new.parts c.out_for-sent.result c.copy_next.new.out v s
    c.requires.next
    (c.out_for-sent.ensures.segment e v s c.requires.next) c.out_for-sent.ensures.len c.copy_next.ensures
    (c.move_past.ensures.after e v s)
