-- Answers of the proof of laws/shared_ticks_are_right.
use Rattle.core_rounds.proofs.SharedRounds.{shared_round}
use Rattle.core_rounds.proofs.laws.shared_ticks_are_right.Goals as goal

pub returns : goal.returns
returns g c = shared_round
