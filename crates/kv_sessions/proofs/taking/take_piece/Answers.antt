use Rattle.std.proofs.lemmas.List.{take_rest}
use Rattle.kv_sessions.specs.Steps.{standing_in}
use Rattle.kv_sessions.proofs.Standings.{reached_next, reached_all, reached_whole, whole_at}
use Rattle.kv_sessions.proofs.Taken.{on_err, none_of}
use Rattle.kv_sessions.proofs.taking.take_piece.Goals as goal

pub returns-in_err-later-clause-whole : goal.returns-in_err-later-clause-whole
returns-in_err-later-clause-whole c =
    on_err c.from_residual.result _
    (whole_at _ _ _ _ _ c.in_err-later.ensures.err
    (reached_whole (standing_in c.args.mode) c.args.store.now c.args.bytes.now c.loop-rest.rest.now
    c.loop-rest.replies.items (standing_in c.loop-rest.mode) c.loop-rest.store c.loop-rest.invariant.reached))

pub loop-rest-preserved : goal.loop-rest-preserved
loop-rest-preserved c = record {
  short = c.in_ok-later.ensures.short;
  reached = rw (take_rest c.loop-rest.rest.now c.in_ok-later.taken)
      (reached_next (standing_in c.args.mode) c.args.store.now c.args.bytes.now c.loop-rest.rest.now
      c.loop-rest.replies.items (standing_in c.loop-rest.mode) c.loop-rest.store c.in_ok-later.taken
      (standing_in c.in_ok-later.later) c.take_some.new.store c.take_some.new.replies.items
      c.loop-rest.invariant.reached c.in_ok-later.ensures.leads);
}

pub returns-clause-answered : goal.returns-clause-answered
returns-clause-answered c =
    reached_all (standing_in c.args.mode) c.args.store.now c.args.bytes.now c.loop-rest.rest.now
    c.loop-rest.replies.items (standing_in c.loop-rest.mode) c.loop-rest.store
    (none_of _ _ c.is_empty.ensures c.loop-rest-test.false)
    c.loop-rest.invariant.reached
