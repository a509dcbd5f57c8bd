-- Answers of the proof of turns/collected_frames_keep_it.
use Rattle.sound_turns.proofs.Serving.{collected_sound, no_frames}
use Rattle.sound_turns.proofs.turns.collected_frames_keep_it.Goals as goal

pub returns-clause-first : goal.returns-clause-first
returns-clause-first c h sound = no_frames h sound

pub returns-clause-next : goal.returns-clause-next
returns-clause-next c h a b w collected sound = collected_sound h a b w collected sound
