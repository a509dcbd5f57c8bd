use Rattle.core_rounds.proofs.CoresRounds.{cores_round}
use Rattle.core_rounds.proofs.laws.cores_ticks_are_right.Goals as goal

pub returns : goal.returns
returns g c = cores_round
