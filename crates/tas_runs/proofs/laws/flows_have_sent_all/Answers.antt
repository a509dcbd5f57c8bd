use Rattle.tas_runs.proofs.Runs.{replays_quiet}
use Rattle.tas_runs.proofs.laws.flows_have_sent_all.Goals as goal

pub returns : goal.returns
returns c = replays_quiet
