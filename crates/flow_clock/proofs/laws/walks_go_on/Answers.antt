use Rattle.flow_clock.proofs.Chains.{gone_on}
use Rattle.flow_clock.proofs.laws.walks_go_on.Goals as goal

pub returns : goal.returns
returns c = gone_on
