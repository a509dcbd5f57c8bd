use Rattle.core_rounds.proofs.CoresRounds.{cores_low}
use Rattle.core_rounds.proofs.laws.cores_ticks_are_by_their_cores.Goals as goal

pub returns : goal.returns
returns g c = cores_low
