use Rattle.audited_runs.proofs.Whole.{run_auditable}
use Rattle.audited_runs.proofs.laws.lines_can_be_shown.Goals as goal

pub returns : goal.returns
returns c = λ s log range run fits. (run_auditable s log range run fits).fits
