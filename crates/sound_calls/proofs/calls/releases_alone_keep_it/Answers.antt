-- Answers of the proof of calls/releases_alone_keep_it.
use Rattle.sound_calls.proofs.Releasing.{released_alone, still_alone}
use Rattle.sound_calls.proofs.calls.releases_alone_keep_it.Goals as goal

pub returns : goal.returns
returns c h front back a s sound alone socket =
    (released_alone h front back a s sound alone socket, still_alone h front back a s sound alone socket)
