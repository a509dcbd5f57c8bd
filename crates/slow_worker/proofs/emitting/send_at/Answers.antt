use Rattle.std.proofs.Common.{ap}
use Rattle.flow_lock.specs.Passes.{Seen}
use Rattle.app_reaper.specs.OneCall.{history, IsOwn}
use Rattle.app_reaper.proofs.Calls.{taken_holds}
use Rattle.core_worker.specs.Sending.{IsAllSent, IsPartSent}
use Rattle.slow_worker.proofs.Walks.{all_used, part_used}
use Rattle.slow_worker.proofs.emitting.send_at.Goals as goal

pub slow_give-requires-clause-held : goal.slow_give-requires-clause-held
slow_give-requires-clause-held c =
    taken_holds c.args.pin.now c.in-Ok.flow (history c.send_all-sent.new.flow) c.args.slow.now.view
    c.slow_take.new.slow.view c.in-Ok.ensures.taken c.send_all-sent.ensures.longer

pub returns-clause-sent : goal.returns-clause-sent
returns-clause-sent c =
    let t = c.in-Ok.ensures in
    let id = c.args.pin.now in
    let v = c.args.slow.now.view in
    let own : IsOwn id v c.in-Ok.flow =
    record {
      own = t.own;
      legal = c.parts.ensures.legal;
      stands = c.parts.ensures.stands;
      seen = t.seen;
      known = t.known;
    } in
    all_used (IsAllSent 0 c.args.tick) id c.in-Ok.flow (history c.send_all-sent.new.flow) v c.slow_take.new.slow.view
    c.slow_give.new.slow.view _ own t.taken (ap (λ (s : Seen). s.view) c.slow_give.ensures)
    c.send_all-sent.ensures.sent

pub returns-clause-part : goal.returns-clause-part
returns-clause-part c =
    let t = c.in-Ok.ensures in
    let id = c.args.pin.now in
    let v = c.args.slow.now.view in
    let own : IsOwn id v c.in-Ok.flow =
    record {
      own = t.own;
      legal = c.parts.ensures.legal;
      stands = c.parts.ensures.stands;
      seen = t.seen;
      known = t.known;
    } in
    part_used (IsPartSent 0 c.args.tick) id c.in-Ok.flow (history c.send_all-sent.new.flow) v
    c.slow_take.new.slow.view c.slow_give.new.slow.view _ own t.taken
    (ap (λ (s : Seen). s.view) c.slow_give.ensures) c.send_all-sent.ensures.part
