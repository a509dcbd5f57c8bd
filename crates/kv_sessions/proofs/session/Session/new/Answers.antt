use Rattle.std.proofs.Common.{ap}
use Rattle.kv_sessions.specs.Sessions.{InLine}
use Rattle.kv_sessions.proofs.Standings.{begun_at}
use Rattle.kv_sessions.proofs.session.Session.new.Goals as goal

pub returns-clause-begins : goal.returns-clause-begins
returns-clause-begins c = begun_at _ (ap InLine c.new.ensures.items)
