use Rattle.run_laws.proofs.OneByOne.{nothing_pending}
use Rattle.run_laws.proofs.rules.replays_shut_when_nothing_is_pending.Goals as goal

pub returns : goal.returns
returns c = nothing_pending
