use Rattle.tas_model.proofs.TwoEnds.{heard_of_stream}
use Rattle.tas_model.proofs.laws.what_is_said_is_heard.Goals as goal

pub returns : goal.returns
returns c = heard_of_stream
