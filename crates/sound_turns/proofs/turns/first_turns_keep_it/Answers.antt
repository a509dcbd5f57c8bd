-- Answers of the proof of turns/first_turns_keep_it.
use Rattle.sound_turns.proofs.Whole.{first_sound}
use Rattle.sound_turns.proofs.turns.first_turns_keep_it.Goals as goal

pub returns : goal.returns
returns c' h ns c tick w sound turn kept = first_sound h ns c tick w sound turn kept
