-- Answers of the proof of laws/turns_are_beside.
use Rattle.lane_orders.proofs.Beside.{beside}
use Rattle.lane_orders.proofs.laws.turns_are_beside.Goals as goal

pub returns : goal.returns
returns g c = beside
