-- Answers of the proof of ending/find_all.
use Rattle.std.proofs.Common.{◌≡◌, ◌∷◌, cond, List, length, sym, ap, ◌∙◌, subst, arith}
use Rattle.std.specs.Prelude.{Some}
use Rattle.tas_model.specs.declared.entry.FlowId.{FlowId}
use Rattle.flow_state.specs.Flow.{History}
use Rattle.flow_lock.specs.Orders.{same_flow}
use Rattle.app_reaper.proofs.Walking.{front, no_pins}
use Rattle.core_host.specs.Ending.{found_in}
use Rattle.core_host.proofs.Freeing.{freeing_begins, freeing_more, freeing_ends, still_may, first_may}
use Rattle.core_host.proofs.ending.find_all.Goals as goal

pub loop-slow-init : goal.loop-slow-init
loop-slow-init c = freeing_begins c.args.table.now c.args.pins.list c.args.slow.now c.args.found.now

pub free-flow-requires : goal.free-flow-requires
free-flow-requires c =
    let left = c.loop-slow.pins.list in
    first_may c.args.table.now c.loop-slow.slow c.remove.result c.remove.new.self.list left
    (front left c.remove.result c.remove.ensures.pin
    ∙ ap (λ (l : List FlowId). c.remove.result ∷ l) (sym c.remove.ensures.rest))
    (still_may c.args.table.now c.args.pins.list c.args.slow.now c.args.found.now left c.loop-slow.slow
    c.loop-slow.found c.loop-slow.invariant c.requires)

pub loop-slow-smaller : goal.loop-slow-smaller
loop-slow-smaller c =
    let left = c.loop-slow.pins.list in
    let f = c.remove.result in
    let split = ap (λ (l : List FlowId). length l) (front left f c.remove.ensures.pin) in
    let rest = ap (λ (l : List FlowId). length l) c.remove.ensures.rest in
    omega (arith, split, rest)

pub loop-slow-preserved : goal.loop-slow-preserved
loop-slow-preserved c =
    let left = c.loop-slow.pins.list in
    let f = c.remove.result in
    freeing_more c.args.table.now c.args.pins.list c.args.slow.now c.args.found.now left c.remove.new.self.list
    c.loop-slow.slow c.free-flow.new.slow c.loop-slow.found c.put.new.self f c.free-flow.result c.loop-slow.invariant
    (front left f c.remove.ensures.pin ∙ ap (λ (l : List FlowId). f ∷ l) (sym c.remove.ensures.rest))
    c.free-flow.ensures.freed c.free-flow.ensures.own
    (subst (λ (h : History). (id : FlowId) → found_in c.put.new.self id
    ≡ cond (same_flow h.id id) (Some h) (found_in c.loop-slow.found id)) c.into_history.ensures c.in_ok-put.ensures)

pub returns-clause-freed : goal.returns-clause-freed
returns-clause-freed c =
    let left = c.loop-slow.pins.list in
    let none : length left ≡ 0 = let t = c.loop-slow-test.false in let e = c.len.ensures in omega arith in
    (freeing_ends c.args.table.now c.args.pins.list c.args.slow.now c.args.found.now left c.loop-slow.slow
    c.loop-slow.found c.loop-slow.invariant (no_pins left none)).0

pub returns-clause-found : goal.returns-clause-found
returns-clause-found c =
    let left = c.loop-slow.pins.list in
    let none : length left ≡ 0 = let t = c.loop-slow-test.false in let e = c.len.ensures in omega arith in
    (freeing_ends c.args.table.now c.args.pins.list c.args.slow.now c.args.found.now left c.loop-slow.slow
    c.loop-slow.found c.loop-slow.invariant (no_pins left none)).1
