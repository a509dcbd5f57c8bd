-- Answers of the proof of asked/CoreHostAskedHost/give_up.
use Rattle.std.proofs.lemmas.Result.{on_ok_weaker}
use Rattle.flow_state.specs.Calls.{call_of}
use Rattle.asked_host.specs.Asking.{left_by}
use Rattle.core_host.proofs.FiledSteps.{end_filed}
use Rattle.core_host.proofs.Stays.{asks_stay}
use Rattle.core_host.proofs.asked.CoreHostAskedHost.give_up.Goals as goal

pub returns-clause-kept : goal.returns-clause-kept
returns-clause-kept c =
    on_ok_weaker c.give_up.result
    (λ made. asks_stay c.args.app (left_by c.args.app c.args.place c.args.tick (call_of c.args.call.now))
    c.args.self.now c.give_up.new.self c.requires.stands
    (end_filed c.args.self.now c.give_up.new.self c.requires.stands c.args.app c.args.tick c.args.place
    (call_of c.args.call.now) c.requires.socket made) made)
    c.give_up.ensures
