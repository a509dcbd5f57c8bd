use Rattle.tas_runs.proofs.Counts.{records_counted}
use Rattle.tas_runs.proofs.laws.records_are_counted.Goals as goal

pub returns : goal.returns
returns c = records_counted
