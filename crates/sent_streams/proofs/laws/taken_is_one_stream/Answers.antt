use Rattle.sent_streams.proofs.Taken.{taken_is}
use Rattle.sent_streams.proofs.laws.taken_is_one_stream.Goals as goal

pub returns : goal.returns
returns c = taken_is
