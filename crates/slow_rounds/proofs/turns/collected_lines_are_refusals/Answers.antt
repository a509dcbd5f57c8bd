-- Answers of the proof of turns/collected_lines_are_refusals.
use Rattle.slow_rounds.proofs.Refusals.{collected_made}
use Rattle.slow_rounds.proofs.turns.collected_lines_are_refusals.Goals as goal

pub returns : goal.returns
returns g c = λ scripts h tick check frames a b w collected lines.
    collected_made scripts h tick check frames a b w collected lines
