use Rattle.std.proofs.Common.{◌≡◌, ◌<◌, List, length, IfOk, sym, subst}
use Rattle.flow_state.specs.Calls.{call_of, offer_of, answer_of}
use Rattle.flow_state.specs.Flow.{reply_to}
use Rattle.host_rounds.specs.Hosts.{Live}
use Rattle.local_host.proofs.Asking.{asked, asked_keeps, asked_calms, asked_stays}
use Rattle.local_host.proofs.Places.{read_is, if_as}
use Rattle.local_host.proofs.Standing.{sound_if_calm, done_by_calm}
use Rattle.local_host.proofs.flows.Flows.ask.Goals as goal

below : (c : goal.After-settle-arg-1) → c.args.i < length c.self.inside.table.flows.items
below c = subst (λ (ls : List Live). c.args.i < length ls) (sym c.self.view_is) c.requires.place

pub settle-requires : goal.settle-requires
settle-requires c =
    sound_if_calm c.ask-done.result
    (asked c.args.caller c.args.tick (call_of c.args.call.now) (offer_of c.args.call.now)) c.args.i
    c.index_mut.result.now c.ask-done.new.self
    (asked_keeps c.args.caller c.args.tick (call_of c.args.call.now) (offer_of c.args.call.now))
    (asked_calms c.args.caller c.args.tick (call_of c.args.call.now) (offer_of c.args.call.now))
    (asked_stays c.args.caller c.args.tick (call_of c.args.call.now) (offer_of c.args.call.now))
    c.self.invariant (below c) c.index_mut.ensures.value c.ask-done.ensures.made

pub returns-clause-made : goal.returns-clause-made
returns-clause-made c =
    done_by_calm c.ask-done.result c.settle.result
    (asked c.args.caller c.args.tick (call_of c.args.call.now) (offer_of c.args.call.now)) c.args.i
    c.index_mut.result.now c.ask-done.new.self c.settle.new.self.flows.items c.self.view_is c.requires.place
    c.index_mut.ensures.value c.ask-done.ensures.made c.settle.ensures.same c.settle.ensures.flows

pub returns-clause-answer : goal.returns-clause-answer
returns-clause-answer c = λ l here.
    let was : c.index_mut.result.now ≡ l = read_is c.self.inside.table.flows.items c.args.self.now c.args.i
    c.index_mut.result.now l c.self.view_is c.index_mut.ensures.value here in
    if_as _ c.ask-done.result c.settle.result c.settle.ensures.same
    (subst (λ (m : Live). IfOk c.ask-done.result (λ answer. answer ≡ answer_of
    (reply_to m.flow.params m.flow.entries c.args.tick (call_of c.args.call.now) (offer_of c.args.call.now)))) was
    c.ask-done.ensures.answer)
