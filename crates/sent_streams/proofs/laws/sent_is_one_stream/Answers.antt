use Rattle.sent_streams.proofs.Sent.{sent_is_of}
use Rattle.sent_streams.proofs.laws.sent_is_one_stream.Goals as goal

pub returns : goal.returns
returns c = sent_is_of
