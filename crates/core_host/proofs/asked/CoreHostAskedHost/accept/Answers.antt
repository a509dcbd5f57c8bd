-- Answers of the proof of asked/CoreHostAskedHost/accept.
use Rattle.local_host.proofs.Places.{if_by}
use Rattle.core_host.proofs.Stays.{accepts_by, accept_stays}
use Rattle.core_host.proofs.asked.CoreHostAskedHost.accept.Goals as goal

pub returns-clause-made : goal.returns-clause-made
returns-clause-made c =
    if_by c.accept.result (accepts_by c.args.app c.args.tick c.args.port c.args.self.now c.accept.new.self)
    c.accept.ensures

pub returns-clause-kept : goal.returns-clause-kept
returns-clause-kept c =
    if_by c.accept.result
    (λ answer. accept_stays c.args.app c.args.tick c.args.port c.args.self.now c.accept.new.self answer
    c.requires.stands)
    c.accept.ensures
