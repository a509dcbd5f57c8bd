use Rattle.kv_sessions.proofs.Streams.{goes_on}
use Rattle.kv_sessions.proofs.laws.answers_go_on.Goals as goal

pub returns : goal.returns
returns c = goes_on
