-- Answers of the proof of time/time_keeps_it.
use Rattle.sound_turns.proofs.Times.{time_sound}
use Rattle.sound_turns.proofs.time.time_keeps_it.Goals as goal

pub returns : goal.returns
returns c h tick w sound passed kept = time_sound h tick w sound passed kept
