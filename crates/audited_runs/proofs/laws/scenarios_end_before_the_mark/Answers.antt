use Rattle.audited_runs.proofs.Cutting.{lines_whole}
use Rattle.audited_runs.proofs.Whole.{halves_are}
use Rattle.audited_runs.proofs.laws.scenarios_end_before_the_mark.Goals as goal

pub returns-clause-halves : goal.returns-clause-halves
returns-clause-halves c = halves_are

pub returns-clause-whole : goal.returns-clause-whole
returns-clause-whole c = lines_whole
