use Rattle.tas_runs.proofs.Counts.{serial_fails}
use Rattle.tas_runs.proofs.laws.only_captures_are_replayed.Goals as goal

pub returns : goal.returns
returns c = serial_fails
