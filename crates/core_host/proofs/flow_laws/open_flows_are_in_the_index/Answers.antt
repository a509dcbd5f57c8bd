use Rattle.core_host.proofs.OpenFlows.{open_found}
use Rattle.core_host.proofs.flow_laws.open_flows_are_in_the_index.Goals as goal

pub returns : goal.returns
returns c = open_found
