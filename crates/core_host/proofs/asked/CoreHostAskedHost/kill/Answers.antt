-- Answers of the proof of asked/CoreHostAskedHost/kill.
use Rattle.std.proofs.lemmas.Result.{on_ok_weaker}
use Rattle.core_host.proofs.Stays.{kill_stays}
use Rattle.core_host.proofs.asked.CoreHostAskedHost.kill.Goals as goal

pub returns-clause-lost : goal.returns-clause-lost
returns-clause-lost c =
    on_ok_weaker c.kill.result
    (kill_stays c.args.app c.args.tick c.args.self.now c.kill.new.self c.requires.stands) c.kill.ensures
