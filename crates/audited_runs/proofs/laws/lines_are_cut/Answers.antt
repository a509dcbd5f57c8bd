use Rattle.audited_runs.proofs.Saying.{line_cut}
use Rattle.audited_runs.proofs.laws.lines_are_cut.Goals as goal

pub returns : goal.returns
returns c = line_cut
