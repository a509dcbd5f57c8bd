use Rattle.scenario_ranges.proofs.Drafts.{read_in_range}
use Rattle.scenario_ranges.proofs.laws.what_is_read_is_in_range.Goals as goal

pub returns : goal.returns
returns c = read_in_range
