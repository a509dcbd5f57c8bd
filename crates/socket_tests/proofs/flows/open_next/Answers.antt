use Rattle.std.proofs.Common.{ap, arith, subst, sym, ◌<◌}
use Rattle.tas_model.specs.declared.entry.FlowId.{FlowId}
use Rattle.flow_lock.specs.Callers.{IsOwner}
use Rattle.flow_lock.specs.declared.view.View.{View}
use Rattle.flow_lock.proofs.Calling.{keeper_opens, next_mark}
use Rattle.socket_tests.proofs.flows.open_next.Goals as goal

pub returns-in-Ok-clause-pin : goal.returns-in-Ok-clause-pin
returns-in-Ok-clause-pin c =
    let e = c.in-Ok.ensures.opened in
    let s = c.args.slow.now in
    let n = c.open_flow.new.slow in
    let m = next_mark s.view.marks c.in-Ok.opened.0 c.in-Ok.ensures.next in
    let k = keeper_opens _ _ _ s n m.0 c.open_flow.ensures.table e.1 m.1 c.requires.slow.0 in
    subst (λ (q : FlowId). (q.slot < c.args.table.now.slots) × IsOwner q n) (sym e.0) (c.in-Ok.ensures.slot, k.1)

pub returns-in-Ok-clause-keeper : goal.returns-in-Ok-clause-keeper
returns-in-Ok-clause-keeper c =
    let e = c.in-Ok.ensures.opened in
    let s = c.args.slow.now in
    let n = c.open_flow.new.slow in
    let m = next_mark s.view.marks c.in-Ok.opened.0 c.in-Ok.ensures.next in
    let k = keeper_opens _ _ _ s n m.0 c.open_flow.ensures.table e.1 m.1 c.requires.slow.0 in
    (k.0, (let a = ap (λ (v : View). v.opened) e.1 in omega arith))
