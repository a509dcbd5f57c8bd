-- Answers of the proof of listeners/listens_keep_it.
use Rattle.sound_calls.proofs.Listening.{listening_sound}
use Rattle.sound_calls.proofs.listeners.listens_keep_it.Goals as goal

pub returns : goal.returns
returns c h app port sound low = listening_sound h app port sound low
