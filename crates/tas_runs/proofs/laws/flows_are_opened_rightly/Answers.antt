use Rattle.tas_runs.proofs.Runs.{replays_opened}
use Rattle.tas_runs.proofs.laws.flows_are_opened_rightly.Goals as goal

pub returns : goal.returns
returns c = replays_opened
