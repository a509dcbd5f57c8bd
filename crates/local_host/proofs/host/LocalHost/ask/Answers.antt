use Rattle.std.proofs.Common.{◌<◌, length, sym, subst}
use Rattle.flow_state.specs.Calls.{call_of, offer_of}
use Rattle.host_rounds.specs.Lists.{change_at}
use Rattle.host_rounds.specs.Hosts.{Live, Host}
use Rattle.local_host.specs.Ports.{host_of}
use Rattle.local_host.proofs.Asking.{asked, asked_keeps, answered}
use Rattle.local_host.proofs.Ports.{host_change, host_done}
use Rattle.local_host.proofs.host.LocalHost.ask.Goals as goal

pub invariant_of-self : goal.invariant_of-self
invariant_of-self c =
    let f : Live → Live = asked c.args.caller c.args.tick (call_of c.args.call.now) (offer_of c.args.call.now) in
    host_done c.ask.result (change_at c.args.i f c.self.inside.flows) c.ask.new.self c.self.invariant
    (host_change f c.args.i
    (asked_keeps c.args.caller c.args.tick (call_of c.args.call.now) (offer_of c.args.call.now)) c.self.invariant)
    c.ask.ensures.made c.ask.ensures.none

pub returns-clause-answer : goal.returns-clause-answer
returns-clause-answer c =
    answered c.ask.result c.args.caller c.args.tick (call_of c.args.call.now) (offer_of c.args.call.now) c.args.i
    c.self.inside.flows (host_of c.self.inside.params c.self.inside.listeners.items c.self.inside.log c.ask.new.self)
    (subst (λ (h : Host). c.args.i < length h.flows) (sym c.self.view_is) c.requires.place)
    c.ask.ensures.made c.ask.ensures.answer
