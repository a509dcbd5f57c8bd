use Rattle.tas_runs.proofs.AllShown.{replays_shown}
use Rattle.tas_runs.proofs.laws.captures_show_all.Goals as goal

pub returns : goal.returns
returns c = replays_shown
