use Rattle.scenario_runs.proofs.AllRuns.{serial_is_run}
use Rattle.scenario_runs.proofs.laws.serial_order_is_right.Goals as goal

pub returns : goal.returns
returns c = serial_is_run
