use Rattle.tas_runs.proofs.AllBatches.{batches_are}
use Rattle.tas_runs.proofs.laws.batches_are_longest.Goals as goal

pub returns : goal.returns
returns c = batches_are
