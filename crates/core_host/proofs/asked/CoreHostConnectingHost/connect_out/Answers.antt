-- Answers of the proof of asked/CoreHostConnectingHost/connect_out.
use Rattle.local_host.proofs.Places.{if_by}
use Rattle.slow_rounds.specs.Rests.{starts_by}
use Rattle.core_host.proofs.Numbers.{connects_by, numbers_in}
use Rattle.core_host.proofs.Stays.{connect_stays}
use Rattle.core_host.proofs.asked.CoreHostConnectingHost.connect_out.Goals as goal

pub returns-clause-made : goal.returns-clause-made
returns-clause-made g c =
    if_by c.connect_out.result
    (λ answer. connects_by (g.S.StartSource.starts c.args.starts.now) c.args.tick c.args.app c.args.raddr c.args.rport
    c.args.self.now c.connect_out.new.self answer c.requires.starts)
    c.connect_out.ensures

pub returns-clause-kept : goal.returns-clause-kept
returns-clause-kept g c =
    if_by c.connect_out.result
    (λ answer. connect_stays (starts_by (numbers_in (g.S.StartSource.starts c.args.starts.now))) c.args.tick c.args.app
    c.args.raddr c.args.rport c.args.self.now c.connect_out.new.self answer c.requires.stands)
    c.connect_out.ensures
