-- Answers of the proof of ending/find_filed.
use Rattle.std.proofs.Common.{◌≡◌, cond, List, length, ap, subst, arith}
use Rattle.std.specs.Prelude.{Some}
use Rattle.tas_model.specs.declared.entry.FlowId.{FlowId}
use Rattle.flow_state.specs.Flow.{Flow, History}
use Rattle.flow_lock.specs.Orders.{same_flow}
use Rattle.core_host.specs.Ending.{found_in}
use Rattle.core_host.proofs.Found.{filed_begins, filed_more, filed_ends}
use Rattle.core_host.proofs.ending.find_filed.Goals as goal

pub loop-flow-init : goal.loop-flow-init
loop-flow-init c = filed_begins c.args.found.now c.args.filed.list

pub loop-flow-smaller : goal.loop-flow-smaller
loop-flow-smaller c =
    let e = ap (λ (l : List Flow). length l) c.in-Some.ensures.first in omega (arith, e)

pub loop-flow-preserved : goal.loop-flow-preserved
loop-flow-preserved c =
    filed_more c.args.found.now c.loop-flow.found c.put.new.self c.args.filed.list c.loop-flow.filed.list
    c.take_first.new.self.list c.in-Some.flow c.loop-flow.invariant c.in-Some.ensures.first
    (subst (λ (h : History). (id : FlowId) → found_in c.put.new.self id
    ≡ cond (same_flow h.id id) (Some h) (found_in c.loop-flow.found id)) c.into_history.ensures c.in_ok-put.ensures)

pub returns : goal.returns
returns c =
    filed_ends c.args.found.now c.loop-flow.found c.args.filed.list c.loop-flow.filed.list c.loop-flow.invariant
    c.in_default.ensures.none.0
