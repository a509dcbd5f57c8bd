use Rattle.scenario_laws.proofs.AllTicks.{ticks_timed}
use Rattle.scenario_laws.proofs.laws.open_flows_have_one_tick.Goals as goal

pub returns : goal.returns
returns c = ticks_timed
