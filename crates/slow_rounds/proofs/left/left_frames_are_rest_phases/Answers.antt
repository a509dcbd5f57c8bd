-- Answers of the proof of left/left_frames_are_rest_phases.
use Rattle.slow_rounds.proofs.Collecting.{left_made}
use Rattle.slow_rounds.proofs.left.left_frames_are_rest_phases.Goals as goal

pub returns : goal.returns
returns g c' = λ scripts h tick before after u w ns c given sound counted are lines few turn.
    left_made scripts h tick before after u sound are lines ns c w given counted few turn
