use Rattle.run_laws.proofs.OneByOne.{own_flows, others_flows, given_up_flows, waiting_flows, closed_flows}
use Rattle.run_laws.proofs.OneByOne.{elsewhere_flows}
use Rattle.run_laws.proofs.rules.kills_concern_their_own_flows.Goals as goal

pub returns-clause-own : goal.returns-clause-own
returns-clause-own c = own_flows

pub returns-clause-others : goal.returns-clause-others
returns-clause-others c = others_flows

pub returns-clause-given_up : goal.returns-clause-given_up
returns-clause-given_up c = given_up_flows

pub returns-clause-waiting : goal.returns-clause-waiting
returns-clause-waiting c = waiting_flows

pub returns-clause-closed : goal.returns-clause-closed
returns-clause-closed c = closed_flows

pub returns-clause-elsewhere : goal.returns-clause-elsewhere
returns-clause-elsewhere c = elsewhere_flows
