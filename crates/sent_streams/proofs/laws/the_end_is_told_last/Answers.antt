use Rattle.sent_streams.proofs.Ending.{end_is_last}
use Rattle.sent_streams.proofs.laws.the_end_is_told_last.Goals as goal

pub returns : goal.returns
returns c = end_is_last
