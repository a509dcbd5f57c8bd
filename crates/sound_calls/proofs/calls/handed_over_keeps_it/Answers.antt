-- Answers of the proof of calls/handed_over_keeps_it.
use Rattle.sound_calls.proofs.Alone.{handed_sound}
use Rattle.sound_calls.proofs.calls.handed_over_keeps_it.Goals as goal

pub returns : goal.returns
returns c h front back a sound apps = handed_sound h front back a sound apps
