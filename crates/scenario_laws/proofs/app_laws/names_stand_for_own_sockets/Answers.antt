use Rattle.scenario_laws.proofs.FlowByFlow.{turn_owns, turn_leaves}
use Rattle.scenario_laws.proofs.app_laws.names_stand_for_own_sockets.Goals as goal

pub returns-clause-own : goal.returns-clause-own
returns-clause-own c = turn_owns

pub returns-clause-others : goal.returns-clause-others
returns-clause-others c = turn_leaves
