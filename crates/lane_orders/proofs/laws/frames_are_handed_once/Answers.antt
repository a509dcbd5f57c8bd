-- Answers of the proof of laws/frames_are_handed_once.
use Rattle.lane_orders.proofs.Handing.{handed_once}
use Rattle.lane_orders.proofs.laws.frames_are_handed_once.Goals as goal

pub returns : goal.returns
returns g c = handed_once
