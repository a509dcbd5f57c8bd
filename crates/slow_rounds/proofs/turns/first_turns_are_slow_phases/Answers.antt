-- Answers of the proof of turns/first_turns_are_slow_phases.
use Rattle.slow_rounds.proofs.FirstTurns.{first_made}
use Rattle.slow_rounds.proofs.turns.first_turns_are_slow_phases.Goals as goal

pub returns : goal.returns
returns c' h ns c tick w sound new turn kept = first_made h ns c tick w sound new turn kept
