use Rattle.scenario_canonical.proofs.Back.{one_scenario}
use Rattle.scenario_canonical.proofs.laws.canonical_text_tells_its_scenario.Goals as goal

pub returns : goal.returns
returns c = one_scenario
