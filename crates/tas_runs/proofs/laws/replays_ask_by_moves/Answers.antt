use Rattle.tas_runs.proofs.ByMoves.{replays_by_moves}
use Rattle.tas_runs.proofs.laws.replays_ask_by_moves.Goals as goal

pub returns : goal.returns
returns c = replays_by_moves
