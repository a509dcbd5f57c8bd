use Rattle.scenario_laws.proofs.AllTicks.{ticks_place}
use Rattle.scenario_laws.proofs.OneName.{ticks_once}
use Rattle.scenario_laws.proofs.WholeRun.{runs_once}
use Rattle.scenario_laws.proofs.laws.frames_have_one_place.Goals as goal

pub returns-clause-place : goal.returns-clause-place
returns-clause-place c = ticks_place

pub returns-clause-once : goal.returns-clause-once
returns-clause-once c = ticks_once

pub returns-clause-ended : goal.returns-clause-ended
returns-clause-ended c = runs_once
