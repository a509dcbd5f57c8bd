use Rattle.scenario_laws.proofs.AllTicks.{hosts_named, hosts_opened}
use Rattle.scenario_laws.proofs.laws.flows_are_opened_rightly.Goals as goal

pub returns-clause-hosts : goal.returns-clause-hosts
returns-clause-hosts c = hosts_named

pub returns-clause-opened : goal.returns-clause-opened
returns-clause-opened c = hosts_opened
