use Rattle.scenario_runs.proofs.AllBelow.{serial_run_low}
use Rattle.scenario_runs.proofs.laws.serial_order_has_one_core.Goals as goal

pub returns : goal.returns
returns c = serial_run_low
