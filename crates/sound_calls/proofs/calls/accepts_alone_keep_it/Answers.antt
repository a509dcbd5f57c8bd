-- Answers of the proof of calls/accepts_alone_keep_it.
use Rattle.sound_calls.proofs.Acceptances.{acceptance}
use Rattle.sound_calls.proofs.calls.accepts_alone_keep_it.Goals as goal

pub returns : goal.returns
returns c h front back a b port tick id result sound alone first accepted =
    acceptance h front back a b port tick id sound alone first result accepted
