-- Answers of the proof of moving/opened_flows_are_moves.
use Rattle.slow_rounds.proofs.Openings.{opening_moves}
use Rattle.slow_rounds.proofs.moving.opened_flows_are_moves.Goals as goal

pub returns : goal.returns
returns c starts h tick app tuple iss id w sound few opening start =
    opening_moves starts h tick app tuple iss id w sound few opening start
