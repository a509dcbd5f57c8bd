-- Answers of the proof of laws/tries_stand.
use Rattle.script_tries.proofs.Together.{step_tried, one_stands, all_stand}
use Rattle.script_tries.proofs.laws.tries_stand.Goals as goal

pub returns-clause-step : goal.returns-clause-step
returns-clause-step c = step_tried

pub returns-clause-one : goal.returns-clause-one
returns-clause-one c = one_stands

pub returns-clause-all : goal.returns-clause-all
returns-clause-all c = λ sc p t s scripts tries are. all_stand sc p t s scripts tries are.each
