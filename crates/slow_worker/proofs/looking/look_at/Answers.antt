use Rattle.std.proofs.Common.{ap, ◌∙◌, ◌++◌}
use Rattle.flow_lock.specs.Passes.{Seen}
use Rattle.app_reaper.specs.OneCall.{history, IsOwn}
use Rattle.app_reaper.proofs.Calls.{taken_holds}
use Rattle.core_worker.specs.Kicks.{one_kick}
use Rattle.slow_worker.proofs.Walks.{as_it_was, looked_at, kick_put}
use Rattle.slow_worker.proofs.looking.look_at.Goals as goal

pub slow_give-requires-clause-held : goal.slow_give-requires-clause-held
slow_give-requires-clause-held c =
    let r = c.in-Ok.flow in
    taken_holds c.args.pin.now r (history r) c.args.slow.now.view c.slow_take.new.slow.view c.in-Ok.ensures.taken
    (as_it_was (history r))

pub returns-clause-looked : goal.returns-clause-looked
returns-clause-looked c =
    let t = c.in-Ok.ensures in
    let id = c.args.pin.now in
    let v = c.args.slow.now.view in
    let own : IsOwn id v c.in-Ok.flow =
    record {
      own = t.own;
      legal = c.parts.ensures.legal;
      stands = c.parts.ensures.stands;
      seen = t.seen;
      known = t.known;
    } in
    looked_at id c.in-Ok.flow v c.slow_take.new.slow.view c.slow_give.new.slow.view own t.taken
    (ap (λ (s : Seen). s.view) c.slow_give.ensures)

pub returns-clause-kicked : goal.returns-clause-kicked
returns-clause-kicked c =
    let t = c.in-Ok.ensures in
    let id = c.args.pin.now in
    let v = c.args.slow.now.view in
    let own : IsOwn id v c.in-Ok.flow =
    record {
      own = t.own;
      legal = c.parts.ensures.legal;
      stands = c.parts.ensures.stands;
      seen = t.seen;
      known = t.known;
    } in
    kick_put id c.in-Ok.flow v c.args.kicks.now.list c.put_some.new.self.list c.of.result own c.requires.slow.2
    c.of.ensures (c.put_some.ensures.list ∙ ap (λ l. l ++ one_kick c.of.result) c.reserve.ensures.list)
