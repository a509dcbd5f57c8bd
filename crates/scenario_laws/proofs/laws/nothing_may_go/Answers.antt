use Rattle.scenario_laws.proofs.AllTicks.{ticks_quiet, hosts_quiet}
use Rattle.scenario_laws.proofs.laws.nothing_may_go.Goals as goal

pub returns-clause-ticks : goal.returns-clause-ticks
returns-clause-ticks c = ticks_quiet

pub returns-clause-ended : goal.returns-clause-ended
returns-clause-ended c = hosts_quiet
