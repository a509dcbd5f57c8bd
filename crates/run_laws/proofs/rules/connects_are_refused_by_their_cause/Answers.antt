use Rattle.run_laws.proofs.OneByOne.{without_slot, without_port}
use Rattle.run_laws.proofs.rules.connects_are_refused_by_their_cause.Goals as goal

pub returns-clause-no_slot : goal.returns-clause-no_slot
returns-clause-no_slot c = without_slot

pub returns-clause-no_port : goal.returns-clause-no_port
returns-clause-no_port c = without_port
