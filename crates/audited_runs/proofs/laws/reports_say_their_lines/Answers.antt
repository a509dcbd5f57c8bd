use Rattle.audited_runs.proofs.Whole.{report_said}
use Rattle.audited_runs.proofs.laws.reports_say_their_lines.Goals as goal

pub returns : goal.returns
returns c = report_said
