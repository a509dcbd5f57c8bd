-- What something new begins anew: timer, tries and duplicates where it is acknowledged, or where a closed window opens.
use Rattle.std.specs.Prelude.{List, [], ◌∷◌, ◌++◌, Some, None}
use Rattle.tas_model.specs.declared.entry.Entry.{Entry}
use Rattle.tas_model.specs.declared.entry.Caller.TheVariants.{Slow, Core, App}
use Rattle.tas_model.specs.declared.entry.Call.TheVariants as calls
use Rattle.tas_model.specs.declared.entry.Reply.TheVariants as replies
use Rattle.tas_model.specs.WorkedHistories.{entry, segment}
use Rattle.tas_model.specs.WorkedRules.{peers, syn_received, established}
use Rattle.worked_histories.specs.Beginnings.{ack, reset}

-- ----- what is acknowledged for the first time
-- What is acknowledged for the first time begins the timer and its doubling anew (RFC 6298, section 5).
abbrev pub timer_begins_anew : List Entry
timer_begins_anew =
    established 1000
    ++ entry (App 0) 0 0 (calls.Send 2) (replies.Took (1 ∷ 2 ∷ []))
    ∷ entry (Core 0) 1 0 calls.Emit (replies.Sent (segment 24 1001 5001 256 None (1 ∷ 2 ∷ [])))
    ∷ entry (App 0) 1 0 (calls.Send 2) (replies.Took (3 ∷ 4 ∷ []))
    ∷ entry (Core 0) 2 0 calls.Emit (replies.Sent (segment 24 1003 5001 256 None (3 ∷ 4 ∷ [])))
    ∷ entry Slow 2 1 calls.Tick replies.Quiet
    ∷ entry Slow 3 2 calls.Tick replies.Quiet
    ∷ entry (Core 0) 3 2 (calls.Rx peers (segment 16 5001 1003 1000 None [])) replies.Nothing
    ∷ entry Slow 4 3 calls.Tick replies.Quiet
    ∷ entry Slow 5 4 calls.Tick replies.Quiet
    ∷ entry Slow 6 5 calls.Tick replies.Resend
    ∷ entry (Core 0) 4 5 calls.Emit (replies.Sent (segment 24 1003 5001 256 None (3 ∷ 4 ∷ [])))
    ∷ entry (App 0) 2 5 (calls.Send 1) (replies.Took (5 ∷ []))
    ∷ entry (Core 0) 5 5 calls.Emit (replies.Sent (segment 24 1005 5001 256 None (5 ∷ [])))
    ∷ entry (Core 0) 6 5 (calls.Rx peers (segment 16 5001 1005 1000 None [])) replies.Nothing
    ∷ entry Slow 7 6 calls.Tick replies.Quiet
    ∷ entry Slow 8 7 calls.Tick replies.Quiet
    ∷ entry Slow 9 8 calls.Tick replies.Resend
    ∷ entry (Core 0) 7 8 calls.Emit (replies.Sent (segment 24 1005 5001 256 None (5 ∷ [])))
    ∷ []

-- Duplicate acknowledgements count from the last advance: the third of the same place goes back, whatever came for
-- the place before (RFC 5681, sections 2 and 3.2).
abbrev pub duplicates_begin_anew : List Entry
duplicates_begin_anew =
    established 1000
    ++ entry (App 0) 0 0 (calls.Send 1) (replies.Took (1 ∷ []))
    ∷ entry (Core 0) 1 0 calls.Emit (replies.Sent (segment 24 1001 5001 256 None (1 ∷ [])))
    ∷ entry (App 0) 1 0 (calls.Send 1) (replies.Took (2 ∷ []))
    ∷ entry (Core 0) 2 0 calls.Emit (replies.Sent (segment 24 1002 5001 256 None (2 ∷ [])))
    ∷ entry (Core 0) 3 0 (calls.Rx peers (segment 16 5001 1001 1000 None [])) replies.Nothing
    ∷ entry (Core 0) 4 0 (calls.Rx peers (segment 16 5001 1001 1000 None [])) replies.Nothing
    ∷ entry (Core 0) 5 0 (calls.Rx peers (segment 16 5001 1002 1000 None [])) replies.Nothing
    ∷ entry (Core 0) 6 0 (calls.Rx peers (segment 16 5001 1002 1000 None [])) replies.Nothing
    ∷ entry (Core 0) 7 0 (calls.Rx peers (segment 16 5001 1002 1000 None [])) replies.Nothing
    ∷ entry (App 0) 2 0 (calls.Send 1) (replies.Took (3 ∷ []))
    ∷ entry (Core 0) 8 0 calls.Emit (replies.Sent (segment 24 1003 5001 256 None (3 ∷ [])))
    ∷ entry (Core 0) 9 0 (calls.Rx peers (segment 16 5001 1002 1000 None [])) replies.Nothing
    ∷ entry (Core 0) 10 0 calls.Emit (replies.Sent (segment 24 1002 5001 256 None (2 ∷ 3 ∷ [])))
    ∷ []

-- The SYN was sent twice. Its acknowledgement begins timer and doubling anew, and Control doesn't hear of it (RFC
-- 6298, section 5.3; RFC 9293, section 3.10.7.3).
abbrev pub connected_begins_anew : List Entry
connected_begins_anew =
    entry (App 0) 0 0 (calls.Connect (record { 0 = 1000 })) replies.Ok
    ∷ entry (Core 0) 0 0 calls.Emit (replies.Sent (segment 2 1000 0 256 (Some 200) []))
    ∷ entry Slow 0 1 calls.Tick replies.Quiet
    ∷ entry Slow 1 2 calls.Tick replies.Quiet
    ∷ entry Slow 2 3 calls.Tick replies.Resend
    ∷ entry (Core 0) 1 3 calls.Emit (replies.Sent (segment 2 1000 0 256 (Some 200) []))
    ∷ entry Slow 3 4 calls.Tick replies.Quiet
    ∷ entry Slow 4 5 calls.Tick replies.Quiet
    ∷ entry Slow 5 6 calls.Tick replies.Quiet
    ∷ entry Slow 6 7 calls.Tick replies.Quiet
    ∷ entry Slow 7 8 calls.Tick replies.Quiet
    ∷ entry Slow 8 8 (calls.Rx peers (segment 18 5000 1001 1000 (Some 200) [])) (ack 1001 5001 256)
    ∷ entry (App 0) 1 8 (calls.Send 1) (replies.Took (1 ∷ []))
    ∷ entry (Core 0) 2 8 calls.Emit (replies.Sent (segment 24 1001 5001 256 None (1 ∷ [])))
    ∷ entry Slow 9 9 calls.Tick replies.Quiet
    ∷ entry Slow 10 10 calls.Tick replies.Quiet
    ∷ entry Slow 11 10 calls.Control (replies.Window 800 65535)
    ∷ entry Slow 12 11 calls.Tick replies.Resend
    ∷ []

-- In SYN-RECEIVED an acknowledgement of what was not sent, or of place 0, is answered by a reset and changes nothing
-- (RFC 9293, section 3.10.7.4, fifth). That of the SYN begins timer and doubling anew, and Control doesn't hear of
-- what came before.
abbrev pub accepted_begins_anew : List Entry
accepted_begins_anew =
    syn_received
    ++ entry Slow 1 0 (calls.Rx peers (segment 16 5001 1000 1000 None [])) (reset 1000)
    ∷ entry Slow 2 0 (calls.Rx peers (segment 24 5001 1002 1000 None (7 ∷ []))) (reset 1002)
    ∷ entry Slow 3 1 calls.Tick replies.Quiet
    ∷ entry Slow 4 2 calls.Tick replies.Quiet
    ∷ entry Slow 5 3 calls.Tick replies.Resend
    ∷ entry (Core 0) 1 3 calls.Emit (replies.Sent (segment 18 1000 5001 256 (Some 200) []))
    ∷ entry Slow 6 4 calls.Tick replies.Quiet
    ∷ entry Slow 7 5 calls.Tick replies.Quiet
    ∷ entry Slow 8 6 calls.Tick replies.Quiet
    ∷ entry Slow 9 7 calls.Tick replies.Quiet
    ∷ entry Slow 10 8 calls.Tick replies.Quiet
    ∷ entry Slow 11 8 (calls.Rx peers (segment 16 5001 1001 1000 None [])) replies.Nothing
    ∷ entry (App 0) 0 8 (calls.Send 1) (replies.Took (1 ∷ []))
    ∷ entry (Core 0) 2 8 calls.Emit (replies.Sent (segment 24 1001 5001 256 None (1 ∷ [])))
    ∷ entry Slow 12 9 calls.Tick replies.Quiet
    ∷ entry Slow 13 10 calls.Tick replies.Quiet
    ∷ entry Slow 14 10 calls.Control (replies.Window 800 65535)
    ∷ entry Slow 15 11 calls.Tick replies.Resend
    ∷ []

-- ----- the peer's window
-- A window that opens begins the timer anew, and its doubling goes on (RFC 9293, section 3.8.6.1; RFC 6298, section
-- 5.3).
abbrev pub opened_window : List Entry
opened_window =
    established 0
    ++ entry (App 0) 0 0 (calls.Send 2) (replies.Took (1 ∷ 2 ∷ []))
    ∷ entry Slow 2 1 calls.Tick replies.Quiet
    ∷ entry Slow 3 2 calls.Tick replies.Quiet
    ∷ entry (Core 0) 1 2 (calls.Rx peers (segment 16 5001 1001 1000 None [])) replies.Nothing
    ∷ entry (Core 0) 2 2 calls.Emit (replies.Sent (segment 24 1001 5001 256 None (1 ∷ 2 ∷ [])))
    ∷ entry Slow 4 3 calls.Tick replies.Quiet
    ∷ entry Slow 5 4 calls.Tick replies.Quiet
    ∷ entry Slow 6 5 calls.Tick replies.Resend
    ∷ entry (Core 0) 3 5 calls.Emit (replies.Sent (segment 24 1001 5001 256 None (1 ∷ 2 ∷ [])))
    ∷ entry (Core 0) 4 5 (calls.Rx peers (segment 16 5001 1003 0 None [])) replies.Nothing
    ∷ entry (App 0) 1 5 (calls.Send 1) (replies.Took (3 ∷ []))
    ∷ entry Slow 7 6 calls.Tick replies.Quiet
    ∷ entry Slow 8 7 calls.Tick replies.Quiet
    ∷ entry Slow 9 8 calls.Tick replies.Probe
    ∷ entry (Core 0) 5 8 (calls.Rx peers (segment 16 5001 1003 1000 None [])) replies.Nothing
    ∷ entry (Core 0) 6 8 calls.Emit (replies.Sent (segment 24 1003 5001 256 None (3 ∷ [])))
    ∷ entry Slow 10 9 calls.Tick replies.Quiet
    ∷ entry Slow 11 10 calls.Tick replies.Quiet
    ∷ entry Slow 12 11 calls.Tick replies.Quiet
    ∷ entry Slow 13 12 calls.Tick replies.Quiet
    ∷ entry Slow 14 13 calls.Tick replies.Quiet
    ∷ entry Slow 15 14 calls.Tick replies.Resend
    ∷ []

-- A probe that was due is not, once the window opened (RFC 9293, section 3.8.6.1): the window closed again, and the
-- byte that waits is not sent before the timer runs out once more.
abbrev pub probe_is_over : List Entry
probe_is_over =
    established 0
    ++ entry (App 0) 0 0 (calls.Send 1) (replies.Took (1 ∷ []))
    ∷ entry Slow 2 1 calls.Tick replies.Quiet
    ∷ entry Slow 3 2 calls.Tick replies.Quiet
    ∷ entry Slow 4 3 calls.Tick replies.Probe
    ∷ entry (Core 0) 1 3 (calls.Rx peers (segment 16 5001 1001 1000 None [])) replies.Nothing
    ∷ entry (Core 0) 2 3 calls.Emit (replies.Sent (segment 24 1001 5001 256 None (1 ∷ [])))
    ∷ entry (Core 0) 3 3 (calls.Rx peers (segment 16 5001 1002 0 None [])) replies.Nothing
    ∷ entry (App 0) 1 3 (calls.Send 1) (replies.Took (2 ∷ []))
    ∷ []

-- A window that stays open begins nothing anew (RFC 6298, section 5.3).
abbrev pub open_window_moves : List Entry
open_window_moves =
    established 1000
    ++ entry (App 0) 0 0 (calls.Send 1) (replies.Took (1 ∷ []))
    ∷ entry (Core 0) 1 0 calls.Emit (replies.Sent (segment 24 1001 5001 256 None (1 ∷ [])))
    ∷ entry Slow 2 1 calls.Tick replies.Quiet
    ∷ entry Slow 3 2 calls.Tick replies.Quiet
    ∷ entry (Core 0) 2 2 (calls.Rx peers (segment 16 5001 1001 900 None [])) replies.Nothing
    ∷ entry Slow 4 3 calls.Tick replies.Resend
    ∷ entry (Core 0) 3 3 (calls.Rx peers (segment 16 5001 1001 800 None [])) replies.Nothing
    ∷ entry Slow 5 4 calls.Tick replies.Quiet
    ∷ entry Slow 6 5 calls.Tick replies.Quiet
    ∷ entry Slow 7 6 calls.Tick replies.Quiet
    ∷ entry Slow 8 7 calls.Tick replies.Quiet
    ∷ entry Slow 9 8 calls.Tick replies.Quiet
    ∷ entry Slow 10 9 calls.Tick replies.Resend
    ∷ []

-- Each window of 0 that is taken ends the doubling of the probes' interval, and one of an old segment does not. The
-- timer goes on meanwhile, and a probe that is due stays so (RFC 9293, sections 3.8.6.1 and 3.10.7.4, fifth).
abbrev pub tries_at_a_closed_window : List Entry
tries_at_a_closed_window =
    established 0
    ++ entry (App 0) 0 0 (calls.Send 1) (replies.Took (1 ∷ []))
    ∷ entry (Core 0) 1 0 (calls.Rx peers (segment 24 5003 1001 0 None (9 ∷ []))) (ack 1001 5001 256)
    ∷ entry Slow 2 1 calls.Tick replies.Quiet
    ∷ entry Slow 3 2 calls.Tick replies.Quiet
    ∷ entry Slow 4 3 calls.Tick replies.Probe
    ∷ entry (Core 0) 2 3 (calls.Rx peers (segment 24 5001 1001 0 None (7 ∷ []))) (ack 1001 5002 255)
    ∷ entry Slow 5 4 calls.Tick replies.Quiet
    ∷ entry Slow 6 5 calls.Tick replies.Quiet
    ∷ entry Slow 7 6 calls.Tick replies.Quiet
    ∷ entry Slow 8 7 calls.Tick replies.Quiet
    ∷ entry Slow 9 8 calls.Tick replies.Quiet
    ∷ entry Slow 10 9 calls.Tick replies.Probe
    ∷ entry Slow 11 10 calls.Tick replies.Quiet
    ∷ entry Slow 12 11 calls.Tick replies.Quiet
    ∷ entry (Core 0) 3 11 (calls.Rx peers (segment 16 5004 1001 0 None [])) replies.Nothing
    ∷ entry Slow 13 12 calls.Tick replies.Probe
    ∷ entry (Core 0) 4 12 (calls.Rx peers (segment 16 5004 1001 0 None [])) replies.Nothing
    ∷ entry (Core 0) 5 12 calls.Emit (replies.Sent (segment 24 1001 5002 255 None (1 ∷ [])))
    ∷ []

-- Answers to a probe are no duplicates, as the window is 0 (RFC 5681, section 2): Control hears of no loss. The own
-- number is past the probe (RFC 9293, section 3.8.6.1).
abbrev pub answers_to_a_probe : List Entry
answers_to_a_probe =
    established 0
    ++ entry (App 0) 0 0 (calls.Send 2) (replies.Took (1 ∷ 2 ∷ []))
    ∷ entry Slow 2 1 calls.Tick replies.Quiet
    ∷ entry Slow 3 2 calls.Tick replies.Quiet
    ∷ entry Slow 4 3 calls.Tick replies.Probe
    ∷ entry (Core 0) 1 3 calls.Emit (replies.Sent (segment 16 1001 5001 256 None (1 ∷ [])))
    ∷ entry (Core 0) 2 3 (calls.Rx peers (segment 16 5001 1001 0 None [])) replies.Nothing
    ∷ entry (Core 0) 3 3 (calls.Rx peers (segment 16 5001 1001 0 None [])) replies.Nothing
    ∷ entry (Core 0) 4 3 (calls.Rx peers (segment 16 5001 1001 0 None [])) replies.Nothing
    ∷ entry Slow 5 3 calls.Control (replies.Window 800 65535)
    ∷ entry (Core 0) 5 3 (calls.Rx peers (segment 24 5001 1001 0 None (7 ∷ []))) (ack 1002 5002 255)
    ∷ []
