-- What the code's judgements of a segment mean in the model.
use Rattle.std.specs.Prelude.{◌^◌, ◌<◌, ⊤}
use Rattle.tas_model.specs.Receive.{Verdict, AckVerdict}
use Rattle.tas_model.specs.Receive as model
use Rattle.fast_rx.specs.declared.hearing.Hearing.{Hearing}
use Rattle.fast_rx.specs.declared.hearing.Hearing.TheVariants as hearings
use Rattle.fast_rx.specs.declared.hearing.Acceptance.{Acceptance}
use Rattle.fast_rx.specs.declared.hearing.Acceptance.TheVariants as acceptances

-- the verdict of rules 1 to 4
abbrev pub verdict_of : Hearing → Verdict
verdict_of hearings.Dropped = model.Dropped
verdict_of hearings.Answered = model.Answered
verdict_of hearings.Reset = model.Reset
verdict_of hearings.BareAck = model.BareAck
verdict_of (hearings.Taken q) = model.Taken q

-- the verdict on the place that is acknowledged
abbrev pub ack_verdict_of : Acceptance → AckVerdict
ack_verdict_of acceptances.Stray = model.Stray
ack_verdict_of acceptances.TooFar = model.TooFar
ack_verdict_of acceptances.Good = model.Good

-- the place of a segment that is taken is far below 2^128
abbrev pub IsPlaced : Hearing → Type 0
IsPlaced (hearings.Taken q) = q < 2 ^ 127
IsPlaced _ = ⊤
