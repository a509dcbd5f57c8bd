-- Short histories of connections whose windows are scaled, or are not, worked by hand (RFC 7323, section 2).
use Rattle.std.specs.Prelude.{ℕ, List, [], ◌∷◌, replicate, Some, None}
use Rattle.tas_model.specs.declared.entry.HostParams.{HostParams}
use Rattle.tas_model.specs.declared.entry.Entry.{Entry}
use Rattle.tas_model.specs.declared.entry.Seg.{Seg}
use Rattle.tas_model.specs.declared.entry.Caller.TheVariants.{Slow, Core, App}
use Rattle.tas_model.specs.declared.entry.Call.TheVariants as calls
use Rattle.tas_model.specs.declared.entry.Reply.TheVariants as replies
use Rattle.tas_model.specs.WorkedHistories.{entry, segment}
use Rattle.tas_model.specs.WorkedRules.{brief_params, peers}
use Rattle.tas_model.specs.Shifts.{with_scale}

-- The own windows count units of 4 bytes.
abbrev pub scaled_params : HostParams
scaled_params = record brief_params { ring = 1024; scale = Some 2 }

-- the same host, which offers no shift
abbrev pub unscaled_params : HostParams
unscaled_params = record brief_params { ring = 1024 }

-- a SYN with an MSS of 200 and this shift
abbrev pub scaled_syn : (flags seq ack window shift : ℕ) → Seg
scaled_syn flags seq ack window shift = with_scale (segment flags seq ack window (Some 200) []) (Some shift)

-- Both sides offer a shift, 2 and 3. No SYN's window is scaled: the peer has room for 8 bytes at first, and for 16 with
-- its next segment; the own window is 1,024 bytes in the SYN and 256 units after it. What is left of 1,019 bytes is 254
-- units, rounded down.
abbrev pub both_scale : List Entry
both_scale =
    entry (App 0) 0 0 (calls.Connect (record { 0 = 1000 })) replies.Ok
    ∷ entry (Core 0) 0 0 calls.Emit (replies.Sent (scaled_syn 2 1000 0 1024 2))
    ∷ entry Slow 0 0 (calls.Rx peers (scaled_syn 18 5000 1001 8 3)) (replies.Sent (segment 16 1001 5001 256 None []))
    ∷ entry (App 0) 1 0 (calls.Send 9) (replies.Took (replicate 9 1))
    ∷ entry (Core 0) 1 0 calls.Emit (replies.Sent (segment 16 1001 5001 256 None (replicate 8 1)))
    ∷ entry (Core 0) 2 0 (calls.Rx peers (segment 16 5001 1009 2 None [])) replies.Nothing
    ∷ entry (App 0) 2 0 (calls.Send 16) (replies.Took (replicate 16 2))
    ∷ entry (Core 0) 3 0 calls.Emit (replies.Sent (segment 16 1009 5001 256 None (1 ∷ replicate 15 2)))
    ∷ entry (Core 0) 4 0 (calls.Rx peers (segment 24 5001 1025 2 None (replicate 5 7)))
    (replies.Sent (segment 16 1025 5006 254 None []))
    ∷ entry (Core 0) 5 0 calls.Emit (replies.Sent (segment 24 1025 5006 254 None (2 ∷ [])))
    ∷ []

-- The peer offers no shift: the answer to its SYN bears none, and no window is scaled.
abbrev pub own_side_alone : List Entry
own_side_alone =
    entry Slow 0 0 (calls.Passive peers (record { 0 = 1000 }) (segment 2 5000 0 1000 (Some 200) [])) replies.Ok
    ∷ entry (Core 0) 0 0 calls.Emit (replies.Sent (segment 18 1000 5001 1024 (Some 200) []))
    ∷ entry Slow 1 0 (calls.Rx peers (segment 16 5001 1001 3 None [])) replies.Nothing
    ∷ entry (App 0) 0 0 (calls.Send 4) (replies.Took (replicate 4 1))
    ∷ entry (Core 0) 1 0 calls.Emit (replies.Sent (segment 16 1001 5001 1024 None (replicate 3 1)))
    ∷ []

-- The peer alone offers one: it is as if it had not.
abbrev pub peers_side_alone : List Entry
peers_side_alone =
    entry Slow 0 0 (calls.Passive peers (record { 0 = 1000 }) (scaled_syn 2 5000 0 1000 7)) replies.Ok
    ∷ entry (Core 0) 0 0 calls.Emit (replies.Sent (segment 18 1000 5001 1024 (Some 200) []))
    ∷ entry Slow 1 0 (calls.Rx peers (segment 16 5001 1001 3 None [])) replies.Nothing
    ∷ entry (App 0) 0 0 (calls.Send 4) (replies.Took (replicate 4 1))
    ∷ entry (Core 0) 1 0 calls.Emit (replies.Sent (segment 16 1001 5001 1024 None (replicate 3 1)))
    ∷ []

-- The own windows count units of 128 bytes, more than a segment.
abbrev pub coarse_params : HostParams
coarse_params = record brief_params { mss = 64; scale = Some 7 }

-- A window of 6 bytes is shown as none, and yet what comes into it is taken. Reading sends no update until a window
-- field can show what it opened.
abbrev pub small_opening : List Entry
small_opening =
    entry Slow 0 0 (calls.Passive peers (record { 0 = 1000 }) (scaled_syn 2 5000 0 1000 0)) replies.Ok
    ∷ entry (Core 0) 0 0 calls.Emit (replies.Sent (with_scale (segment 18 1000 5001 256 (Some 64) []) (Some 7)))
    ∷ entry Slow 1 0 (calls.Rx peers (segment 16 5001 1001 1000 None [])) replies.Nothing
    ∷ entry (Core 0) 1 0 (calls.Rx peers (segment 24 5001 1001 1000 None (replicate 250 7)))
    (replies.Sent (segment 16 1001 5251 0 None []))
    ∷ entry (Core 0) 2 0 (calls.Rx peers (segment 24 5251 1001 1000 None (8 ∷ [])))
    (replies.Sent (segment 16 1001 5252 0 None []))
    ∷ entry (App 0) 0 0 (calls.Recv 100) (replies.Got (replicate 100 7) None)
    ∷ entry (App 0) 1 0 (calls.Recv 22) (replies.Got (replicate 22 7) None)
    ∷ entry (App 0) 2 0 (calls.Recv 1) (replies.Got (7 ∷ []) (Some ((segment 16 1001 5252 1 None []).head)))
    ∷ []
