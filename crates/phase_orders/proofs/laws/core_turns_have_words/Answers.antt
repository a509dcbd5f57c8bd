-- Answers of the proof of laws/core_turns_have_words.
use Rattle.phase_orders.proofs.CoreTurns.{core_turn}
use Rattle.phase_orders.proofs.laws.core_turns_have_words.Goals as goal

pub returns : goal.returns
returns g c = core_turn
