use Rattle.sent_streams.proofs.Spending.{time_bounds}
use Rattle.sent_streams.proofs.laws.time_bounds_what_is_accepted.Goals as goal

pub returns : goal.returns
returns c = time_bounds
