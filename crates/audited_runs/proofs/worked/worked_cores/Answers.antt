use Rattle.audited_runs.proofs.WorkedCores.{last_core, next_core, core_text}
use Rattle.audited_runs.proofs.worked.worked_cores.Goals as goal

pub returns-clause-last : goal.returns-clause-last
returns-clause-last c = last_core

pub returns-clause-next : goal.returns-clause-next
returns-clause-next c = next_core

pub returns-clause-text : goal.returns-clause-text
returns-clause-text c = core_text
