-- Answers of the proof of laws/phases_are_turns.
use Rattle.phase_orders.proofs.Phases.{phase_of_turns}
use Rattle.phase_orders.proofs.laws.phases_are_turns.Goals as goal

pub returns : goal.returns
returns g c = λ scripts check cores t l. phase_of_turns scripts t check cores l
