-- Answers of the proof of laws/ticks_of_turns_are_shared.
use Rattle.lane_orders.proofs.Ticks.{tick_of_turns}
use Rattle.lane_orders.proofs.laws.ticks_of_turns_are_shared.Goals as goal

pub returns : goal.returns
returns g c scripts cores t = tick_of_turns scripts t cores
