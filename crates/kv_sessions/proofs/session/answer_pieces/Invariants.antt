use Rattle.std.proofs.Common.{take}
use Rattle.kv_sessions.specs.Sessions.{IsAfter}
use Rattle.kv_sessions.proofs.Standings.{joined}
use Rattle.kv_sessions.proofs.session.answer_pieces.Given as goal

abbrev pub invariant-loop-piece : goal.invariant-loop-piece
invariant-loop-piece l = IsAfter l.fn.store (joined (take l.piece-index l.pieces)) l.said.items l.session l.store
