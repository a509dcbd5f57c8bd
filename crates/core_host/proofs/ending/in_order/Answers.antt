-- Answers of the proof of ending/in_order.
use Rattle.std.proofs.Common.{◌+◌, ◌<◌, ◌≤◌, List, length, sym, ◌∙◌, subst, arith}
use Rattle.flow_state.specs.Flow.{History}
use Rattle.core_host.proofs.Found.{AreTaken, taking_begins, taking_more, taking_ends, never_gone}
use Rattle.core_host.proofs.ending.in_order.Goals as goal

pub loop-i-init : goal.loop-i-init
loop-i-init c =
    subst (λ (l : List History). AreTaken c.args.found c.args.books.now 0 c.args.found l) (sym
    c.in_ok-flows.ensures.items)
    (taking_begins c.args.found c.args.books.now)

pub unreachable-requires : goal.unreachable-requires
unreachable-requires c =
    let near : c.loop-i.i < length c.args.books.now =
    let t = c.loop-i-test.true in let e = c.len-i-end.ensures in omega (arith, t, e) in
    never_gone c.requires.0 c.args.found c.args.books.now c.loop-i.i c.loop-i.found c.loop-i.flows.items c.id.result
    c.loop-i.invariant c.requires.1 c.requires.2 near c.id.ensures (sym c.take.ensures.value ∙ c.in_default.is)

pub loop-i-preserved : goal.loop-i-preserved
loop-i-preserved c =
    let near : c.loop-i.i < length c.args.books.now =
    let t = c.loop-i-test.true in let e = c.len-i-end.ensures in omega (arith, t, e) in
    subst (λ (l : List History). AreTaken c.args.found c.args.books.now (c.loop-i.i + 1) c.take.new.self l)
    (sym c.in_ok-push.ensures.items)
    (taking_more c.args.found c.args.books.now c.loop-i.i c.loop-i.found c.take.new.self c.loop-i.flows.items
    c.id.result c.in-Some.history c.loop-i.invariant near c.id.ensures (sym c.take.ensures.value ∙ c.in-Some.is)
    c.take.ensures.gone c.take.ensures.rest (c.params.ensures.ranges, c.params.ensures.legal))

pub returns-clause-flows : goal.returns-clause-flows
returns-clause-flows c =
    let all : length c.args.books.now ≤ c.loop-i.i =
    let t = c.loop-i-test.false in let e = c.len-i-end.ensures in omega (arith, t, e) in
    taking_ends c.args.found c.args.books.now c.loop-i.i c.loop-i.found c.loop-i.flows.items c.loop-i.invariant all

pub returns-clause-legal : goal.returns-clause-legal
returns-clause-legal c = c.loop-i.invariant.legal
