use Rattle.closed_flows.proofs.Silent.{silent_sent}
use Rattle.closed_flows.proofs.laws.silent_growth_sends_nothing.Goals as goal

pub returns : goal.returns
returns c = silent_sent
