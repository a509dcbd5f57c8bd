use Rattle.std.proofs.Common.{length}
use Rattle.kv_sessions.specs.Steps.{standing_in, IsShort}
use Rattle.kv_sessions.proofs.Standings.{Reached}
use Rattle.kv_sessions.proofs.taking.take_piece.Given as goal

abbrev pub invariant-loop-rest : goal.invariant-loop-rest
invariant-loop-rest l = record {
  short : IsShort l.mode;
  reached : Reached (standing_in l.fn.mode) l.fn.store l.fn.bytes l.rest l.replies.items (standing_in l.mode) l.store;
}

abbrev pub decreases-loop-rest : goal.decreases-loop-rest
decreases-loop-rest l = length l.rest
