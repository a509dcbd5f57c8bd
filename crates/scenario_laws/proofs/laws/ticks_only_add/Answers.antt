use Rattle.scenario_laws.proofs.AllTicks.{ticks_went, hosts_before}
use Rattle.scenario_laws.proofs.laws.ticks_only_add.Goals as goal

pub returns-clause-went : goal.returns-clause-went
returns-clause-went c = ticks_went

pub returns-clause-ended : goal.returns-clause-ended
returns-clause-ended c = hosts_before
