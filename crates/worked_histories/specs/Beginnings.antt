-- How the worked histories begin.
use Rattle.std.specs.Prelude.{ℕ, List, [], ◌∷◌, Some, None}
use Rattle.tas_model.specs.declared.entry.HostParams.{HostParams}
use Rattle.tas_model.specs.declared.entry.Entry.{Entry}
use Rattle.tas_model.specs.declared.entry.Caller.TheVariants.{Slow, Core}
use Rattle.tas_model.specs.declared.entry.Reply.{Reply}
use Rattle.tas_model.specs.declared.entry.Call.TheVariants as calls
use Rattle.tas_model.specs.declared.entry.Reply.TheVariants as replies
use Rattle.tas_model.specs.WorkedHistories.{entry, segment}
use Rattle.tas_model.specs.WorkedRules.{brief_params, peers}

-- The timeout is three ticks, and half the ring is less than a segment.
abbrev pub patient_params : HostParams
patient_params = record brief_params { rto = 3 }

-- The peer asks for segments of at most so many bytes, and has room for so many.
abbrev pub begun : (theirs window : ℕ) → List Entry
begun theirs window =
    entry Slow 0 0 (calls.Passive peers (record { 0 = 1000 }) (segment 2 5000 0 1000 (Some theirs) [])) replies.Ok
    ∷ entry (Core 0) 0 0 calls.Emit (replies.Sent (segment 18 1000 5001 256 (Some 200) []))
    ∷ entry Slow 1 0 (calls.Rx peers (segment 16 5001 1001 window None [])) replies.Nothing
    ∷ []

-- ----- what is answered
-- an ACK
abbrev pub ack : (seq acknowledged window : ℕ) → Reply
ack seq acknowledged window = replies.Sent (segment 16 seq acknowledged window None [])

-- a reset
abbrev pub reset : (seq : ℕ) → Reply
reset seq = replies.Sent (segment 4 seq 0 0 None [])
