-- Answers of the proof of turns/later_turns_keep_it.
use Rattle.sound_turns.proofs.Whole.{later_sound}
use Rattle.sound_turns.proofs.turns.later_turns_keep_it.Goals as goal

pub returns : goal.returns
returns c' h ns c tick w sound few turn = later_sound h ns c tick w sound few turn
