use Rattle.scenario_laws.proofs.InTurns.{ticks_asked, ticks_step}
use Rattle.scenario_laws.proofs.call_laws.scripts_go_step_by_step.Goals as goal

pub returns-clause-asked : goal.returns-clause-asked
returns-clause-asked c = ticks_asked

pub returns-clause-steps : goal.returns-clause-steps
returns-clause-steps c = ticks_step
