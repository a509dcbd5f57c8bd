-- Answers of the proof of asked/CoreHostAskedHost/listen.
use Rattle.std.proofs.lemmas.Result.{on_ok_weaker}
use Rattle.asked_host.specs.Asking.{listened_by}
use Rattle.core_host.specs.Views.{seen_by}
use Rattle.core_host.proofs.FiledFlows.{all_stay}
use Rattle.core_host.proofs.FiledSteps.{step_filed}
use Rattle.core_host.proofs.Stays.{step_stays}
use Rattle.core_host.proofs.asked.CoreHostAskedHost.listen.Goals as goal

pub returns-clause-kept : goal.returns-clause-kept
returns-clause-kept c =
    on_ok_weaker c.listen.result
    (λ made. step_stays (listened_by c.args.app c.args.port) c.args.self.now c.listen.new.self c.requires.stands
    (step_filed c.args.self.now c.listen.new.self (listened_by c.args.app c.args.port) c.requires.stands
    (all_stay (seen_by c.args.self.now).flows) made) made)
    c.listen.ensures
