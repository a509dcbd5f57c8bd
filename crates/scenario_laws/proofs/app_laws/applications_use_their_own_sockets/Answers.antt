use Rattle.scenario_laws.proofs.Own.{calls_by_holders}
use Rattle.scenario_laws.proofs.app_laws.applications_use_their_own_sockets.Goals as goal

pub returns : goal.returns
returns c = calls_by_holders
