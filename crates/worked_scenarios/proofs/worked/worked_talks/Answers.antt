use Rattle.worked_scenarios.proofs.WorkedTalks.{lost_is, doubled_is, wrapped_is, nobody_is, lone_is}
use Rattle.worked_scenarios.proofs.worked.worked_talks.Goals as goal

pub returns-clause-lost : goal.returns-clause-lost
returns-clause-lost c = lost_is

pub returns-clause-doubled : goal.returns-clause-doubled
returns-clause-doubled c = doubled_is

pub returns-clause-wrapped : goal.returns-clause-wrapped
returns-clause-wrapped c = wrapped_is

pub returns-clause-nobody : goal.returns-clause-nobody
returns-clause-nobody c = nobody_is

pub returns-clause-lone : goal.returns-clause-lone
returns-clause-lone c = lone_is
