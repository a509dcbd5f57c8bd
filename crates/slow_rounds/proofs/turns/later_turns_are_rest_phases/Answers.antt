-- Answers of the proof of turns/later_turns_are_rest_phases.
use Rattle.slow_rounds.proofs.LaterTurns.{later_made}
use Rattle.slow_rounds.proofs.turns.later_turns_are_rest_phases.Goals as goal

pub returns : goal.returns
returns g c' = λ scripts h ns c tick w given sound counted few turn.
    later_made scripts h ns c tick w given sound counted few turn
