use Rattle.tas_runs.proofs.SerialRun.{serial_replay_low}
use Rattle.tas_runs.proofs.laws.serial_order_has_one_core.Goals as goal

pub returns : goal.returns
returns c = serial_replay_low
