-- Answers of the proof of moving/holders_are_moves.
use Rattle.slow_rounds.proofs.Openings.{holder_moves}
use Rattle.slow_rounds.proofs.moving.holders_are_moves.Goals as goal

pub returns : goal.returns
returns c starts s known tick n id x at =
    holder_moves starts s known tick n id x at
