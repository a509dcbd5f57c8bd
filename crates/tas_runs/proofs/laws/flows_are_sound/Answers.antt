use Rattle.tas_runs.proofs.Runs.{replays_sound}
use Rattle.tas_runs.proofs.laws.flows_are_sound.Goals as goal

pub returns : goal.returns
returns c = replays_sound
