-- The rate, how a connection ends, and what the calls answer that end it.
use Rattle.std.specs.Prelude.{List, [], ◌∷◌, ◌++◌, replicate, Some, None}
use Rattle.tas_model.specs.declared.entry.Entry.{Entry}
use Rattle.tas_model.specs.declared.entry.Caller.TheVariants.{Slow, Core, App}
use Rattle.tas_model.specs.declared.entry.Call.TheVariants as calls
use Rattle.tas_model.specs.declared.entry.Reason.TheVariants as reasons
use Rattle.tas_model.specs.declared.entry.Reply.TheVariants as replies
use Rattle.tas_model.specs.WorkedHistories.{entry, segment}
use Rattle.tas_model.specs.WorkedRules.{peers, syn_received, established}
use Rattle.worked_histories.specs.Beginnings.{begun, ack, reset}

-- ----- the rate
-- The bucket gets its fill with each tick and no more, and from Control on the fill of the new window (RFC 5681,
-- section 3.1, as a rate): 256 bytes go at once, then as many as each tick brought.
abbrev pub bucket_is_filled_by_ticks : List Entry
bucket_is_filled_by_ticks =
    begun 64 1000
    ++ entry (App 0) 0 0 (calls.Send 250) (replies.Took (replicate 250 7))
    ∷ entry (Core 0) 1 0 calls.Emit (replies.Sent (segment 16 1001 5001 256 None (replicate 64 7)))
    ∷ entry (Core 0) 2 0 calls.Emit (replies.Sent (segment 16 1065 5001 256 None (replicate 64 7)))
    ∷ entry (Core 0) 3 0 calls.Emit (replies.Sent (segment 16 1129 5001 256 None (replicate 64 7)))
    ∷ entry (Core 0) 4 0 calls.Emit (replies.Sent (segment 24 1193 5001 256 None (replicate 58 7)))
    ∷ entry (Core 0) 5 0 (calls.Rx peers (segment 16 5001 1251 1000 None [])) replies.Nothing
    ∷ entry Slow 2 1 calls.Tick replies.Quiet
    ∷ entry (App 0) 1 1 (calls.Send 100) (replies.Took (replicate 100 7))
    ∷ entry (Core 0) 6 1 calls.Emit (replies.Sent (segment 16 1251 5001 256 None (replicate 64 7)))
    ∷ entry (Core 0) 7 1 calls.Emit (replies.Sent (segment 16 1315 5001 256 None (replicate 6 7)))
    ∷ entry Slow 3 1 calls.Control (replies.Window 506 65535)
    ∷ entry Slow 4 2 calls.Tick replies.Quiet
    ∷ entry (Core 0) 8 2 calls.Emit (replies.Sent (segment 24 1321 5001 256 None (replicate 30 7)))
    ∷ entry (App 0) 2 2 (calls.Send 156) (replies.Took (replicate 156 7))
    ∷ entry (Core 0) 9 2 calls.Emit (replies.Sent (segment 16 1351 5001 256 None (replicate 64 7)))
    ∷ entry (Core 0) 10 2 calls.Emit (replies.Sent (segment 16 1415 5001 256 None (replicate 32 7)))
    ∷ []

-- ----- the end
-- TIME-WAIT lasts four timeouts from the peer's FIN, and neither that FIN again nor an acknowledgement begins it anew
-- (RFC 9293, section 3.6.1).
abbrev pub wait_after_fin_wait_2 : List Entry
wait_after_fin_wait_2 =
    established 1000
    ++ entry (App 0) 0 0 calls.Shut replies.Ok
    ∷ entry (Core 0) 1 0 calls.Emit (replies.Sent (segment 17 1001 5001 256 None []))
    ∷ entry (Core 0) 2 0 (calls.Rx peers (segment 16 5001 1002 1000 None [])) replies.Nothing
    ∷ entry Slow 2 3 (calls.Rx peers (segment 17 5001 1002 1000 None [])) (ack 1002 5002 256)
    ∷ entry Slow 3 4 calls.Tick replies.Quiet
    ∷ entry Slow 4 5 calls.Tick replies.Quiet
    ∷ entry Slow 5 6 calls.Tick replies.Quiet
    ∷ entry Slow 6 7 calls.Tick replies.Quiet
    ∷ entry Slow 7 7 (calls.Rx peers (segment 17 5001 1002 1000 None [])) (ack 1002 5002 256)
    ∷ entry Slow 8 8 calls.Tick replies.Quiet
    ∷ entry Slow 9 8 (calls.Rx peers (segment 16 5002 1002 1000 None [])) replies.Nothing
    ∷ entry Slow 10 9 calls.Tick replies.Quiet
    ∷ entry Slow 11 10 calls.Tick replies.Quiet
    ∷ entry Slow 12 11 calls.Tick replies.Quiet
    ∷ entry Slow 13 12 calls.Tick replies.Quiet
    ∷ entry Slow 14 13 calls.Tick replies.Quiet
    ∷ entry Slow 15 14 calls.Tick replies.Quiet
    ∷ entry Slow 16 15 calls.Tick replies.Expired
    ∷ []

-- In CLOSING it lasts as long from the acknowledgement of the own FIN, and that of the bytes before it is none (RFC
-- 9293, section 3.10.7.4, fifth).
abbrev pub wait_after_closing : List Entry
wait_after_closing =
    established 1000
    ++ entry (App 0) 0 0 (calls.Send 1) (replies.Took (1 ∷ []))
    ∷ entry (App 0) 1 0 calls.Shut replies.Ok
    ∷ entry (Core 0) 1 0 calls.Emit (replies.Sent (segment 24 1001 5001 256 None (1 ∷ [])))
    ∷ entry (Core 0) 2 0 calls.Emit (replies.Sent (segment 17 1002 5001 256 None []))
    ∷ entry Slow 2 0 (calls.Rx peers (segment 17 5001 1002 1000 None [])) (ack 1003 5002 256)
    ∷ entry Slow 3 1 calls.Tick replies.Quiet
    ∷ entry Slow 4 2 calls.Tick replies.Quiet
    ∷ entry Slow 5 2 (calls.Rx peers (segment 16 5002 1003 1000 None [])) replies.Nothing
    ∷ entry Slow 6 3 calls.Tick replies.Quiet
    ∷ entry Slow 7 4 calls.Tick replies.Quiet
    ∷ entry Slow 8 5 calls.Tick replies.Quiet
    ∷ entry Slow 9 6 calls.Tick replies.Quiet
    ∷ entry Slow 10 7 calls.Tick replies.Quiet
    ∷ entry Slow 11 8 calls.Tick replies.Quiet
    ∷ entry Slow 12 9 calls.Tick replies.Quiet
    ∷ entry Slow 13 10 calls.Tick replies.Quiet
    ∷ entry Slow 14 11 calls.Tick replies.Quiet
    ∷ entry Slow 15 12 calls.Tick replies.Quiet
    ∷ entry Slow 16 13 calls.Tick replies.Quiet
    ∷ entry Slow 17 14 calls.Tick replies.Expired
    ∷ []

-- LAST-ACK ends where the FIN is acknowledged, which has a place of its own (RFC 9293, sections 3.4 and 3.10.7.4).
abbrev pub fin_has_a_place : List Entry
fin_has_a_place =
    established 1000
    ++ entry Slow 2 0 (calls.Rx peers (segment 17 5001 1001 1000 None [])) (ack 1001 5002 256)
    ∷ entry (App 0) 0 0 (calls.Send 1) (replies.Took (1 ∷ []))
    ∷ entry (App 0) 1 0 calls.Shut replies.Ok
    ∷ entry (Core 0) 1 0 calls.Emit (replies.Sent (segment 24 1001 5002 256 None (1 ∷ [])))
    ∷ entry (Core 0) 2 0 calls.Emit (replies.Sent (segment 17 1002 5002 256 None []))
    ∷ entry Slow 3 0 (calls.Rx peers (segment 16 5002 1002 1000 None [])) replies.Nothing
    ∷ entry (App 0) 2 0 calls.Ready replies.Ok
    ∷ entry Slow 4 0 (calls.Rx peers (segment 16 5002 1003 1000 None [])) replies.Nothing
    ∷ entry (App 0) 3 0 calls.Ready (replies.Closed reasons.Done)
    ∷ []

-- ----- calls
-- A stream ends once, and leaving ends it too (RFC 9293, section 3.10.4).
abbrev pub shut_twice : List Entry
shut_twice =
    established 1000
    ++ entry (App 0) 0 0 calls.Shut replies.Ok
    ∷ entry (App 0) 1 0 calls.Shut replies.Shut
    ∷ entry (App 0) 2 0 (calls.Send 1) replies.Shut
    ∷ entry (App 0) 3 0 calls.Close replies.Ok
    ∷ entry (App 0) 4 0 calls.Shut replies.Shut
    ∷ entry (App 0) 5 0 calls.Close replies.Ok
    ∷ entry (App 0) 6 0 calls.Ready replies.Ok
    ∷ []

-- Who leaves in SYN-SENT gives the connection up, and no other call is of use before it stands (RFC 9293, sections
-- 3.10.2 to 3.10.4).
abbrev pub close_in_syn_sent : List Entry
close_in_syn_sent =
    entry (App 0) 0 0 (calls.Connect (record { 0 = 1000 })) replies.Ok
    ∷ entry (Core 0) 0 0 calls.Emit (replies.Sent (segment 2 1000 0 256 (Some 200) []))
    ∷ entry (App 0) 1 0 calls.Shut replies.NotOpen
    ∷ entry (App 0) 2 0 (calls.Send 1) replies.NotOpen
    ∷ entry (App 0) 3 0 (calls.Recv 1) replies.NotOpen
    ∷ entry (App 0) 4 0 calls.Close replies.Ok
    ∷ entry (App 0) 5 0 calls.Ready (replies.Closed reasons.Aborted)
    ∷ entry (App 0) 6 0 calls.Close replies.Ok
    ∷ entry (App 0) 7 0 calls.Shut (replies.Closed reasons.Aborted)
    ∷ entry Slow 0 0 (calls.Rx peers (segment 18 5000 1001 1000 (Some 200) [])) (reset 1001)
    ∷ []

-- So does who leaves in SYN-RECEIVED, where the standard sends a FIN.
abbrev pub close_in_syn_received : List Entry
close_in_syn_received =
    syn_received
    ++ entry (App 0) 0 0 calls.Shut replies.NotOpen
    ∷ entry (App 0) 1 0 calls.Close replies.Ok
    ∷ entry (App 0) 2 0 calls.Ready (replies.Closed reasons.Aborted)
    ∷ entry Slow 1 0 (calls.Rx peers (segment 16 5001 1001 1000 None [])) (reset 1001)
    ∷ []
