use Rattle.scenario_laws.proofs.Counted.{one_call_a_tick}
use Rattle.scenario_laws.proofs.count_laws.applications_make_one_call_a_tick.Goals as goal

pub returns : goal.returns
returns c = one_call_a_tick
