-- Answers of the proof of asked/CoreHostAskedHost/note.
use Rattle.std.proofs.lemmas.Result.{on_ok_weaker}
use Rattle.host_rounds.specs.Hosts.{Host, logged}
use Rattle.core_host.specs.Views.{seen_by}
use Rattle.core_host.proofs.FiledFlows.{all_stay}
use Rattle.core_host.proofs.FiledSteps.{step_filed}
use Rattle.core_host.proofs.Stays.{step_stays}
use Rattle.core_host.proofs.asked.CoreHostAskedHost.note.Goals as goal

pub returns-clause-kept : goal.returns-clause-kept
returns-clause-kept c =
    on_ok_weaker c.note.result
    (λ made. step_stays (λ (host : Host). logged host c.args.tick c.args.event) c.args.self.now c.note.new.self
    c.requires
    (step_filed c.args.self.now c.note.new.self (λ (host : Host). logged host c.args.tick c.args.event) c.requires
    (all_stay (seen_by c.args.self.now).flows) made) made)
    c.note.ensures
