use Rattle.audited_runs.proofs.Whole.{run_auditable}
use Rattle.audited_runs.proofs.laws.runs_tell_their_ends.Goals as goal

pub returns-clause-names : goal.returns-clause-names
returns-clause-names c = λ s log range run fits. (run_auditable s log range run fits).names

pub returns-clause-told : goal.returns-clause-told
returns-clause-told c = λ s log range run fits. (run_auditable s log range run fits).told
