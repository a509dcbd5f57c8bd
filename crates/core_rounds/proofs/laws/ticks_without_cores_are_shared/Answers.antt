-- Answers of the proof of laws/ticks_without_cores_are_shared.
use Rattle.core_rounds.proofs.SharedRounds.{without_cores}
use Rattle.core_rounds.proofs.laws.ticks_without_cores_are_shared.Goals as goal

pub returns : goal.returns
returns g c = without_cores
