use Rattle.tas_runs.proofs.AllBatches.{takes_up_to}
use Rattle.tas_runs.proofs.run_laws.batches_take_up_to_64.Goals as goal

pub returns : goal.returns
returns c = takes_up_to
