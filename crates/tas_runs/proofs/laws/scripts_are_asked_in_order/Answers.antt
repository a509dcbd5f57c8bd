use Rattle.tas_runs.proofs.AllAsked.{round_asked}
use Rattle.tas_runs.proofs.CaptureBatches.{capture_batches}
use Rattle.tas_runs.proofs.laws.scripts_are_asked_in_order.Goals as goal

pub returns-clause-asked : goal.returns-clause-asked
returns-clause-asked c = round_asked

pub returns-clause-batches : goal.returns-clause-batches
returns-clause-batches c = capture_batches
