-- What is acceptable and what is held, what the numbers of answers are, and what opens the own window again.
use Rattle.std.specs.Prelude.{List, [], ◌∷◌, ◌++◌, replicate, Some, None}
use Rattle.tas_model.specs.declared.entry.Entry.{Entry}
use Rattle.tas_model.specs.declared.entry.Caller.TheVariants.{Slow, Core, App}
use Rattle.tas_model.specs.declared.entry.Call.TheVariants as calls
use Rattle.tas_model.specs.declared.entry.Reply.TheVariants as replies
use Rattle.tas_model.specs.WorkedHistories.{entry, segment}
use Rattle.tas_model.specs.WorkedRules.{peers, established}
use Rattle.worked_histories.specs.Beginnings.{ack, reset}

-- ----- numbers
-- The number of an answer is one past all that was sent, also after going back: of one to bytes, to a segment that is
-- not acceptable, and to an acknowledgement of what was not sent; of an update; and of a reset (RFC 9293, sections
-- 3.10.7.4 and 3.10.5).
abbrev pub numbers_after_going_back : List Entry
numbers_after_going_back =
    established 1000
    ++ entry (App 0) 0 0 (calls.Send 4) (replies.Took (1 ∷ 2 ∷ 3 ∷ 4 ∷ []))
    ∷ entry (Core 0) 1 0 calls.Emit (replies.Sent (segment 24 1001 5001 256 None (1 ∷ 2 ∷ 3 ∷ 4 ∷ [])))
    ∷ entry (Core 0) 2 1 (calls.Rx peers (segment 24 5001 1001 1000 None (replicate 130 7))) (ack 1005 5131 126)
    ∷ entry Slow 2 1 calls.Tick replies.Quiet
    ∷ entry Slow 3 2 calls.Tick replies.Quiet
    ∷ entry Slow 4 3 calls.Tick replies.Resend
    ∷ entry (Core 0) 3 3 (calls.Rx peers (segment 24 5131 1001 1000 None (8 ∷ []))) (ack 1005 5132 125)
    ∷ entry (Core 0) 4 3 (calls.Rx peers (segment 16 4000 1001 1000 None [])) (ack 1005 5132 125)
    ∷ entry (Core 0) 5 3 (calls.Rx peers (segment 16 5132 1006 1000 None [])) (ack 1005 5132 125)
    ∷ entry (App 0) 1 3 (calls.Recv 130)
    (replies.Got (replicate 130 7) (Some ((segment 16 1005 5132 255 None []).head)))
    ∷ entry (App 0) 2 3 calls.Abort (reset 1005)
    ∷ []

-- ----- the own window
-- Once the peer ended its stream no window is offered again (RFC 9293, section 3.8.6.2.2).
abbrev pub no_update_after_the_end : List Entry
no_update_after_the_end =
    established 1000
    ++ entry (Core 0) 1 0 (calls.Rx peers (segment 25 5001 1001 1000 None (replicate 130 7))) (ack 1001 5132 126)
    ∷ entry (App 0) 0 0 (calls.Recv 1) (replies.Got (7 ∷ []) None)
    ∷ entry (App 0) 1 0 (calls.Recv 1) (replies.Got (7 ∷ []) None)
    ∷ entry (App 0) 2 0 (calls.Recv 200) (replies.Got (replicate 128 7) None)
    ∷ entry (App 0) 3 0 (calls.Recv 1) replies.End
    ∷ []

-- So it is where this side ended its own stream before.
abbrev pub no_update_after_both_ends : List Entry
no_update_after_both_ends =
    established 1000
    ++ entry (App 0) 0 0 calls.Shut replies.Ok
    ∷ entry (Core 0) 1 0 calls.Emit (replies.Sent (segment 17 1001 5001 256 None []))
    ∷ entry Slow 2 0 (calls.Rx peers (segment 25 5001 1001 1000 None (replicate 130 7))) (ack 1002 5132 126)
    ∷ entry (App 0) 1 0 (calls.Recv 1) (replies.Got (7 ∷ []) None)
    ∷ entry (App 0) 2 0 (calls.Recv 1) (replies.Got (7 ∷ []) None)
    ∷ []

-- A segment with bytes is acceptable where its first or its last place lies in the window, and not where only what is
-- between them does (RFC 9293, section 3.10.7.4, first). A reset that is acceptable and not at the next place gets an
-- ACK, and one that is not acceptable gets nothing; of bytes those in the window are received.
abbrev pub acceptable_by_either_end : List Entry
acceptable_by_either_end =
    established 1000
    ++ entry (Core 0) 1 0 (calls.Rx peers (segment 24 5001 1001 1000 None (replicate 250 7))) (ack 1001 5251 6)
    ∷ entry Slow 2 0 (calls.Rx peers (segment 4 5249 0 0 None (replicate 2 9))) replies.Nothing
    ∷ entry Slow 3 0 (calls.Rx peers (segment 4 5249 0 0 None (replicate 3 9))) (ack 1001 5251 6)
    ∷ entry Slow 4 0 (calls.Rx peers (segment 4 5250 0 0 None (replicate 7 9))) (ack 1001 5251 6)
    ∷ entry Slow 5 0 (calls.Rx peers (segment 4 5250 0 0 None (replicate 8 9))) replies.Nothing
    ∷ entry Slow 6 0 (calls.Rx peers (segment 4 5256 0 0 None (replicate 2 9))) (ack 1001 5251 6)
    ∷ entry Slow 7 0 (calls.Rx peers (segment 4 5257 0 0 None (replicate 1 9))) replies.Nothing
    ∷ entry (Core 0) 2 0 (calls.Rx peers (segment 24 5250 1001 1000 None (7 ∷ 1 ∷ 2 ∷ []))) (ack 1001 5253 4)
    ∷ entry (Core 0) 3 0 (calls.Rx peers (segment 24 5253 1001 1000 None (3 ∷ 4 ∷ 5 ∷ 6 ∷ 99 ∷ []))) (ack 1001 5257 0)
    ∷ entry (App 0) 0 0 (calls.Recv 256)
    (replies.Got (replicate 250 7 ++ 1 ∷ 2 ∷ 3 ∷ 4 ∷ 5 ∷ 6 ∷ []) (Some ((segment 16 1001 5257 256 None []).head)))
    ∷ []

-- At an own window of 0 the bytes of a segment are not heard, and its acknowledgement is, and is no duplicate (RFC
-- 9293, section 3.10.7.4, first; RFC 5681, section 2).
abbrev pub bytes_past_a_full_ring : List Entry
bytes_past_a_full_ring =
    established 1000
    ++ entry (Core 0) 1 0 (calls.Rx peers (segment 24 5001 1001 1000 None (replicate 256 7))) (ack 1001 5257 0)
    ∷ entry (App 0) 0 0 (calls.Send 2) (replies.Took (1 ∷ 2 ∷ []))
    ∷ entry (Core 0) 2 0 calls.Emit (replies.Sent (segment 24 1001 5257 0 None (1 ∷ 2 ∷ [])))
    ∷ entry (Core 0) 3 0 (calls.Rx peers (segment 24 5257 1001 1000 None (8 ∷ []))) (ack 1003 5257 0)
    ∷ entry (Core 0) 4 0 (calls.Rx peers (segment 24 5257 1001 1000 None (8 ∷ []))) (ack 1003 5257 0)
    ∷ entry (Core 0) 5 0 (calls.Rx peers (segment 24 5257 1001 1000 None (8 ∷ []))) (ack 1003 5257 0)
    ∷ entry (App 0) 1 0 (calls.Send 1) (replies.Took (3 ∷ []))
    ∷ entry (Core 0) 6 0 calls.Emit (replies.Sent (segment 24 1003 5257 0 None (3 ∷ [])))
    ∷ []

-- ----- past a gap
-- Bytes that touch what is held past a gap are held with it, on either side (RFC 9293, section 3.10.7.4, seventh).
abbrev pub touching_bytes_are_joined : List Entry
touching_bytes_are_joined =
    established 1000
    ++ entry (Core 0) 1 0 (calls.Rx peers (segment 24 5003 1001 1000 None (3 ∷ []))) (ack 1001 5001 256)
    ∷ entry (Core 0) 2 0 (calls.Rx peers (segment 24 5004 1001 1000 None (4 ∷ []))) (ack 1001 5001 256)
    ∷ entry (Core 0) 3 0 (calls.Rx peers (segment 24 5002 1001 1000 None (2 ∷ []))) (ack 1001 5001 256)
    ∷ entry (Core 0) 4 0 (calls.Rx peers (segment 24 5001 1001 1000 None (1 ∷ []))) (ack 1001 5005 252)
    ∷ entry (App 0) 0 0 (calls.Recv 9) (replies.Got (1 ∷ 2 ∷ 3 ∷ 4 ∷ []) None)
    ∷ []
