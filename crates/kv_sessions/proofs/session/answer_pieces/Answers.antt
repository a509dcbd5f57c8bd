use Rattle.kv_sessions.proofs.Standings.{piece_next}
use Rattle.kv_sessions.proofs.session.answer_pieces.Goals as goal

pub loop-piece-preserved : goal.loop-piece-preserved
loop-piece-preserved c =
    piece_next c.args.store.now c.args.pieces.now c.loop-piece.piece-index _ c.loop-piece.said.items
    c.in_ok-reply.reply.items c.extend_from_slice.new.self.items c.loop-piece.session c.feed.new.self c.loop-piece.store
    c.feed.new.store c.loop-piece-test.true (cc (c.in_ok-extend_from_slice.ensures.items, c.deref.ensures.value))
    c.loop-piece.invariant c.in_ok-reply.ensures.answered
