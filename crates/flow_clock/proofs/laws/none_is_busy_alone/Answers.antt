use Rattle.flow_clock.proofs.Chains.{served_alone}
use Rattle.flow_clock.proofs.laws.none_is_busy_alone.Goals as goal

pub returns : goal.returns
returns c = served_alone
