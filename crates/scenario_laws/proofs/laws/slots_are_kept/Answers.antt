use Rattle.scenario_laws.proofs.AllTicks.{ticks_filed, ticks_apart}
use Rattle.scenario_laws.proofs.laws.slots_are_kept.Goals as goal

pub returns-clause-filed : goal.returns-clause-filed
returns-clause-filed c = ticks_filed

pub returns-clause-apart : goal.returns-clause-apart
returns-clause-apart c = ticks_apart
