use Rattle.scenario_runs.proofs.AllRuns.{runs_sound}
use Rattle.scenario_runs.proofs.laws.flows_are_sound.Goals as goal

pub returns : goal.returns
returns c = runs_sound
