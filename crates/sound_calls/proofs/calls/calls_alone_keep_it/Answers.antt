-- Answers of the proof of calls/calls_alone_keep_it.
use Rattle.sound_calls.proofs.Alone.{call_alone}
use Rattle.sound_calls.proofs.calls.calls_alone_keep_it.Goals as goal

pub returns : goal.returns
returns c h front back a b s tick call fault sound alone socket called =
    call_alone h front back a b s tick call fault sound alone socket called
