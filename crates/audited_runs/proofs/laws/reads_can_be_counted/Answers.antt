use Rattle.audited_runs.proofs.ReadCounts.{few_read}
use Rattle.audited_runs.proofs.laws.reads_can_be_counted.Goals as goal

pub returns : goal.returns
returns c = few_read
