-- Answers of the proof of laws/turns_leave_one_site.
use Rattle.lane_orders.proofs.Leaving.{one_site}
use Rattle.lane_orders.proofs.laws.turns_leave_one_site.Goals as goal

pub returns : goal.returns
returns g c = one_site
