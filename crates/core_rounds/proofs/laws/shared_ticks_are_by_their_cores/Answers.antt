use Rattle.core_rounds.proofs.SharedRounds.{shared_low}
use Rattle.core_rounds.proofs.laws.shared_ticks_are_by_their_cores.Goals as goal

pub returns : goal.returns
returns g c = shared_low
