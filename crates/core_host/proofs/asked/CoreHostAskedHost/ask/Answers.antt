-- Answers of the proof of asked/CoreHostAskedHost/ask.
use Rattle.std.proofs.lemmas.Result.{on_ok_weaker}
use Rattle.flow_state.specs.Calls.{call_of, offer_of}
use Rattle.asked_host.specs.Asking.{asked_by}
use Rattle.core_host.proofs.FiledSteps.{call_filed}
use Rattle.core_host.proofs.Stays.{asks_stay}
use Rattle.core_host.proofs.asked.CoreHostAskedHost.ask.Goals as goal

pub returns-clause-kept : goal.returns-clause-kept
returns-clause-kept c =
    on_ok_weaker c.ask.result
    (λ made. asks_stay c.args.app
    (asked_by c.args.app c.args.place c.args.tick (call_of c.args.call.now) (offer_of c.args.call.now)) c.args.self.now
    c.ask.new.self c.requires.stands
    (call_filed c.args.self.now c.ask.new.self c.requires.stands c.args.app c.args.tick c.args.place
    (call_of c.args.call.now) (offer_of c.args.call.now) c.requires.socket made) made)
    c.ask.ensures.made
