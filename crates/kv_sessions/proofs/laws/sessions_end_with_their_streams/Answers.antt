use Rattle.kv_sessions.proofs.Standings.{ended_is_over}
use Rattle.kv_sessions.proofs.laws.sessions_end_with_their_streams.Goals as goal

pub returns : goal.returns
returns c = ended_is_over
