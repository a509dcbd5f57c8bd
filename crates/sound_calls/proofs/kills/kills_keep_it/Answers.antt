-- Answers of the proof of kills/kills_keep_it.
use Rattle.sound_calls.proofs.Reaping.{killed_sound}
use Rattle.sound_calls.proofs.kills.kills_keep_it.Goals as goal

pub returns : goal.returns
returns c h front back a ended tick n sound apps rest pass pins held reaped =
    killed_sound h front back a ended tick n sound apps rest pass pins held reaped
