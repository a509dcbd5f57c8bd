use Rattle.scenario_laws.proofs.AllTicks.{ticks_controlled, hosts_controlled}
use Rattle.scenario_laws.proofs.call_laws.rates_are_controlled.Goals as goal

pub returns-clause-ticks : goal.returns-clause-ticks
returns-clause-ticks c = ticks_controlled

pub returns-clause-ended : goal.returns-clause-ended
returns-clause-ended c = hosts_controlled
