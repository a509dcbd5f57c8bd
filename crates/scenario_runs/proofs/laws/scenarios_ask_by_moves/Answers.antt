use Rattle.scenario_runs.proofs.ByMoves.{scenarios_by_moves}
use Rattle.scenario_runs.proofs.laws.scenarios_ask_by_moves.Goals as goal

pub returns : goal.returns
returns c = scenarios_by_moves
