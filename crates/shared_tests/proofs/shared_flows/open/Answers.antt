use Rattle.std.proofs.Common.{ap, arith}
use Rattle.flow_lock.specs.declared.view.View.{View}
use Rattle.flow_lock.proofs.Calling.{keeper_opens, next_mark}
use Rattle.shared_tests.proofs.shared_flows.open.Goals as goal

pub returns-in-Ok-clause-opened : goal.returns-in-Ok-clause-opened
returns-in-Ok-clause-opened c =
    let e = c.in-Ok.ensures.opened in
    let m = next_mark c.args.slow.now.view.marks c.in-Ok.opened.0 c.in-Ok.ensures.next in
    let k = keeper_opens _ _ _ c.args.slow.now c.open_flow.new.slow m.0 c.open_flow.ensures.table e.1 m.1
    c.requires.slow.0 in
    (e.0, c.in-Ok.ensures.slot, k.1)

pub returns-in-Ok-clause-keeper : goal.returns-in-Ok-clause-keeper
returns-in-Ok-clause-keeper c =
    let e = c.in-Ok.ensures.opened in
    let m = next_mark c.args.slow.now.view.marks c.in-Ok.opened.0 c.in-Ok.ensures.next in
    let k = keeper_opens _ _ _ c.args.slow.now c.open_flow.new.slow m.0 c.open_flow.ensures.table e.1 m.1
    c.requires.slow.0 in
    (k.0, (let a = ap (λ (v : View). v.opened) e.1 in omega arith))
