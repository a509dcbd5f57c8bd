-- Short histories, each of which shows a rule of the standard at work: what goes and what does not, worked by hand.
use Rattle.std.specs.Prelude.{ℕ, ◌+◌, List, [], ◌∷◌, ◌++◌, replicate, Option, Some, None, option_map, false}
use Rattle.tas_model.specs.declared.entry.HostParams.{HostParams}
use Rattle.tas_model.specs.declared.entry.FrameId.{FrameId}
use Rattle.tas_model.specs.declared.entry.Entry.{Entry}
use Rattle.tas_model.specs.declared.entry.Caller.TheVariants.{Slow, Core, App}
use Rattle.tas_model.specs.declared.entry.Call.TheVariants as calls
use Rattle.tas_model.specs.declared.entry.Reason.TheVariants as reasons
use Rattle.tas_model.specs.declared.entry.Reply.{Reply}
use Rattle.tas_model.specs.declared.entry.Reply.TheVariants as replies
use Rattle.tas_model.specs.Endpoint.{Endpoint, fresh, fresh_sending}
use Rattle.tas_model.specs.LegalHistory.{step}
use Rattle.tas_model.specs.WorkedHistories.{sent_frame, segment, entry}

-- ----- how they begin
-- The timeout is one tick, and half the ring is less than a segment.
abbrev pub brief_params : HostParams
brief_params =
    record {
      addr = 167772161;
      iss = 1000;
      ring = 256;
      mss = 200;
      rto = 1;
      slots = 16;
      backlog = 16;
      fixed = false;
      scale = None;
    }

-- a frame of the peer; nothing asks which
abbrev pub peers : FrameId
peers = sent_frame 1 0 0

-- The peer's SYN has the number 5000, and room for 1,000 bytes.
abbrev pub syn_received : List Entry
syn_received =
    entry Slow 0 0 (calls.Passive peers (record { 0 = 1000 }) (segment 2 5000 0 1000 (Some 200) [])) replies.Ok
    ∷ entry (Core 0) 0 0 calls.Emit (replies.Sent (segment 18 1000 5001 256 (Some 200) []))
    ∷ []

-- The peer has room for so many bytes.
abbrev pub established : (window : ℕ) → List Entry
established window =
    syn_received
    ++ entry Slow 1 0 (calls.Rx peers (segment 16 5001 1001 window None [])) replies.Nothing ∷ []

-- ----- sending again
-- The third duplicate acknowledgement goes back, and neither the second nor the fourth; one that offers another window
-- is none (RFC 5681, sections 2 and 3.2). New bytes show each time where sending stands.
abbrev pub third_duplicate : List Entry
third_duplicate =
    established 1000
    ++ entry (App 0) 0 0 (calls.Send 4) (replies.Took (1 ∷ 2 ∷ 3 ∷ 4 ∷ []))
    ∷ entry (Core 0) 1 0 calls.Emit (replies.Sent (segment 24 1001 5001 256 None (1 ∷ 2 ∷ 3 ∷ 4 ∷ [])))
    ∷ entry (Core 0) 2 0 (calls.Rx peers (segment 16 5001 1001 1000 None [])) replies.Nothing
    ∷ entry (Core 0) 3 0 (calls.Rx peers (segment 16 5001 1001 1000 None [])) replies.Nothing
    ∷ entry (App 0) 1 0 (calls.Send 1) (replies.Took (5 ∷ []))
    ∷ entry (Core 0) 4 0 calls.Emit (replies.Sent (segment 24 1005 5001 256 None (5 ∷ [])))
    ∷ entry (Core 0) 5 0 (calls.Rx peers (segment 16 5001 1001 900 None [])) replies.Nothing
    ∷ entry (App 0) 2 0 (calls.Send 1) (replies.Took (6 ∷ []))
    ∷ entry (Core 0) 6 0 calls.Emit (replies.Sent (segment 24 1006 5001 256 None (6 ∷ [])))
    ∷ entry (Core 0) 7 0 (calls.Rx peers (segment 16 5001 1001 900 None [])) replies.Nothing
    ∷ entry (Core 0) 8 0 calls.Emit (replies.Sent (segment 24 1001 5001 256 None (1 ∷ 2 ∷ 3 ∷ 4 ∷ 5 ∷ 6 ∷ [])))
    ∷ entry (Core 0) 9 0 (calls.Rx peers (segment 16 5001 1001 900 None [])) replies.Nothing
    ∷ entry (App 0) 3 0 (calls.Send 1) (replies.Took (7 ∷ []))
    ∷ entry (Core 0) 10 0 calls.Emit (replies.Sent (segment 24 1007 5001 256 None (7 ∷ [])))
    ∷ []

-- the replies of so many ticks with nothing due, and of one more
abbrev pub quiet_then : ℕ → Reply → List Reply
quiet_then n reply = replicate n replies.Quiet ++ reply ∷ []

-- ticks one after the other, with these replies
abbrev pub ticks_from : (number tick : ℕ) → List Reply → List Entry
ticks_from number tick [] = []
ticks_from number tick (reply ∷ rest) =
    entry Slow number tick calls.Tick reply ∷ ticks_from (number + 1) (tick + 1) rest

-- Each timeout in a row takes twice as long as the one before, up to 16 times the first, and the ninth is the last
-- (RFC 6298, sections 5.5 and 2.5).
abbrev pub timer_backs_off : List Entry
timer_backs_off =
    established 1000
    ++ entry (App 0) 0 0 (calls.Send 1) (replies.Took (1 ∷ []))
    ∷ entry (Core 0) 1 0 calls.Emit (replies.Sent (segment 24 1001 5001 256 None (1 ∷ [])))
    ∷ ticks_from 2 1 (
    quiet_then 0 replies.Resend
    ++ quiet_then 1 replies.Resend
    ++ quiet_then 3 replies.Resend
    ++ quiet_then 7 replies.Resend
    ++ quiet_then 15 replies.Resend
    ++ quiet_then 15 replies.Resend
    ++ quiet_then 15 replies.Resend
    ++ quiet_then 15 replies.Resend
    ++ quiet_then 15 replies.TimedOut)

-- ----- the peer's window
-- A segment with the same numbers may offer another window, and an older one may not, though its bytes fill a gap (RFC
-- 9293, section 3.10.7.4).
abbrev pub newest_window : List Entry
newest_window =
    established 1000
    ++ entry (Core 0) 1 0 (calls.Rx peers (segment 16 5001 1001 2 None [])) replies.Nothing
    ∷ entry (App 0) 0 0 (calls.Send 4) (replies.Took (1 ∷ 2 ∷ 3 ∷ 4 ∷ []))
    ∷ entry (Core 0) 2 0 calls.Emit (replies.Sent (segment 16 1001 5001 256 None (1 ∷ 2 ∷ [])))
    ∷ entry (Core 0) 3 0 (calls.Rx peers (segment 24 5003 1001 3 None (9 ∷ [])))
    (replies.Sent (segment 16 1003 5001 256 None []))
    ∷ entry (Core 0) 4 0 (calls.Rx peers (segment 24 5001 1001 4 None (7 ∷ 8 ∷ [])))
    (replies.Sent (segment 16 1003 5004 253 None []))
    ∷ entry (Core 0) 5 0 calls.Emit (replies.Sent (segment 16 1003 5004 253 None (3 ∷ [])))
    ∷ []

-- A window of 0 is probed by one byte, at growing intervals while the peer is silent and without end while it answers,
-- until the window opens (RFC 9293, section 3.8.6.1).
abbrev pub zero_window : List Entry
zero_window =
    established 0
    ++ entry (App 0) 0 0 (calls.Send 2) (replies.Took (1 ∷ 2 ∷ []))
    ∷ entry Slow 2 1 calls.Tick replies.Probe
    ∷ entry (Core 0) 1 1 calls.Emit (replies.Sent (segment 16 1001 5001 256 None (1 ∷ [])))
    ∷ entry Slow 3 2 calls.Tick replies.Quiet
    ∷ entry Slow 4 3 calls.Tick replies.Probe
    ∷ entry (Core 0) 2 3 calls.Emit (replies.Sent (segment 16 1001 5001 256 None (1 ∷ [])))
    ∷ entry (Core 0) 3 3 (calls.Rx peers (segment 16 5001 1001 0 None [])) replies.Nothing
    ∷ entry Slow 5 4 calls.Tick replies.Probe
    ∷ entry (Core 0) 4 4 calls.Emit (replies.Sent (segment 16 1001 5001 256 None (1 ∷ [])))
    ∷ entry (Core 0) 5 4 (calls.Rx peers (segment 16 5001 1002 100 None [])) replies.Nothing
    ∷ entry (Core 0) 6 4 calls.Emit (replies.Sent (segment 24 1002 5001 256 None (2 ∷ [])))
    ∷ []

-- The application ended its stream, and the peer has no room for the bytes that wait.
abbrev pub bytes_wait : List Entry
bytes_wait =
    established 2
    ++ entry (App 0) 0 0 (calls.Send 4) (replies.Took (1 ∷ 2 ∷ 3 ∷ 4 ∷ []))
    ∷ entry (App 0) 1 0 calls.Shut replies.Ok
    ∷ entry (Core 0) 1 0 calls.Emit (replies.Sent (segment 16 1001 5001 256 None (1 ∷ 2 ∷ [])))
    ∷ []

-- All bytes go before the FIN (RFC 9293, section 3.10.4).
abbrev pub fin_after_bytes : List Entry
fin_after_bytes =
    bytes_wait
    ++ entry (Core 0) 2 0 (calls.Rx peers (segment 16 5001 1003 2 None [])) replies.Nothing
    ∷ entry (Core 0) 3 0 calls.Emit (replies.Sent (segment 24 1003 5001 256 None (3 ∷ 4 ∷ [])))
    ∷ entry (Core 0) 4 0 calls.Emit (replies.Sent (segment 17 1005 5001 256 None []))
    ∷ []

-- ----- the own window
-- Reading that frees half the ring offers the window again at once, and further reading does not (RFC 9293, section
-- 3.8.6.2.2).
abbrev pub window_update : List Entry
window_update =
    established 1000
    ++ entry (Core 0) 1 0 (calls.Rx peers (segment 24 5001 1001 1000 None (replicate 130 7)))
    (replies.Sent (segment 16 1001 5131 126 None []))
    ∷ entry (App 0) 0 0 (calls.Recv 1) (replies.Got (7 ∷ []) None)
    ∷ entry (App 0) 1 0 (calls.Recv 1) (replies.Got (7 ∷ []) (Some ((segment 16 1001 5131 128 None []).head)))
    ∷ entry (App 0) 2 0 (calls.Recv 1) (replies.Got (7 ∷ []) None)
    ∷ []

-- What is held past a gap stays until the gap is filled: bytes elsewhere are dropped, bytes that touch it are joined
-- to it, and those that are held stand (RFC 9293, section 3.10.7.4, seventh).
abbrev pub held_past_a_gap : List Entry
held_past_a_gap =
    established 1000
    ++ entry (Core 0) 1 0 (calls.Rx peers (segment 24 5003 1001 1000 None (3 ∷ 4 ∷ [])))
    (replies.Sent (segment 16 1001 5001 256 None []))
    ∷ entry (Core 0) 2 0 (calls.Rx peers (segment 24 5010 1001 1000 None (10 ∷ [])))
    (replies.Sent (segment 16 1001 5001 256 None []))
    ∷ entry (Core 0) 3 0 (calls.Rx peers (segment 24 5004 1001 1000 None (99 ∷ 5 ∷ [])))
    (replies.Sent (segment 16 1001 5001 256 None []))
    ∷ entry (Core 0) 4 0 (calls.Rx peers (segment 24 5001 1001 1000 None (1 ∷ 2 ∷ [])))
    (replies.Sent (segment 16 1001 5006 251 None []))
    ∷ entry (App 0) 0 0 (calls.Recv 9) (replies.Got (1 ∷ 2 ∷ 3 ∷ 4 ∷ 5 ∷ []) None)
    ∷ []

-- ----- resets
-- An Abort in SYN-RECEIVED sends a reset (RFC 9293, section 3.10.5).
abbrev pub abort_in_syn_received : List Entry
abort_in_syn_received =
    syn_received
    ++ entry (App 0) 0 0 calls.Abort (replies.Sent (segment 4 1001 0 0 None []))
    ∷ entry (App 0) 1 0 calls.Ready (replies.Closed reasons.Aborted)
    ∷ []

-- An Abort gives up the bytes that were not read (RFC 9293, section 3.10.5). Later segments are strays: each gets the
-- reset that its sender takes, and no reset gets any (section 3.10.7.1).
abbrev pub strays_after_an_abort : List Entry
strays_after_an_abort =
    established 1000
    ++ entry (Core 0) 1 0 (calls.Rx peers (segment 24 5001 1001 1000 None (7 ∷ [])))
    (replies.Sent (segment 16 1001 5002 255 None []))
    ∷ entry (App 0) 0 0 calls.Abort (replies.Sent (segment 4 1001 0 0 None []))
    ∷ entry (App 0) 1 0 (calls.Recv 9) (replies.Closed reasons.Aborted)
    ∷ entry Slow 2 0 (calls.Rx peers (segment 24 5002 1001 1000 None (8 ∷ [])))
    (replies.Sent (segment 4 1001 0 0 None []))
    ∷ entry Slow 3 0 (calls.Rx peers (segment 2 77 0 1000 None [])) (replies.Sent (segment 20 0 78 0 None []))
    ∷ entry Slow 4 0 (calls.Rx peers (segment 1 77 0 1000 None (8 ∷ 9 ∷ []))) (replies.Sent (segment 20 0 80 0 None []))
    ∷ entry Slow 5 0 (calls.Rx peers (segment 4 5002 0 0 None [])) replies.Nothing
    ∷ entry Slow 6 0 (calls.Rx peers (segment 20 5002 1001 0 None [])) replies.Nothing
    ∷ []

-- In SYN-SENT a reset counts where it acknowledges the SYN, and no other is answered; what acknowledges something else
-- is reset (RFC 9293, section 3.10.7.3).
abbrev pub resets_in_syn_sent : List Entry
resets_in_syn_sent =
    entry (App 0) 0 0 (calls.Connect (record { 0 = 1000 })) replies.Ok
    ∷ entry (Core 0) 0 0 calls.Emit (replies.Sent (segment 2 1000 0 256 (Some 200) []))
    ∷ entry Slow 0 0 (calls.Rx peers (segment 4 0 0 0 None [])) replies.Nothing
    ∷ entry Slow 1 0 (calls.Rx peers (segment 20 0 999 0 None [])) replies.Nothing
    ∷ entry Slow 2 0 (calls.Rx peers (segment 16 50 999 0 None [])) (replies.Sent (segment 4 999 0 0 None []))
    ∷ entry (App 0) 1 0 calls.Ready replies.NotYet
    ∷ entry Slow 3 0 (calls.Rx peers (segment 20 0 1001 0 None [])) replies.Nothing
    ∷ entry (App 0) 2 0 calls.Ready (replies.Closed reasons.Refused)
    ∷ []

-- ----- the rate
-- An endpoint with so many places in flight, all of which go again, segments of 1,000 bytes, these windows, and these
-- counts since the last Control.
abbrev pub in_flight : (flight acked fast timeouts cwnd ssthresh : ℕ) → Endpoint
in_flight flight acked fast timeouts cwnd ssthresh =
    let e : Endpoint = fresh brief_params 1000 in
    record e {
      peer = Some 5000;
      tx = record fresh_sending { una = 1; nxt = 1; max = 1 + flight };
      rate = record {
        mss = 1000;
        cwnd = cwnd;
        ssthresh = ssthresh;
        tokens = 0;
        depth = cwnd;
        fill = 1000;
        acked = acked;
        fast = fast;
        timeouts = timeouts;
      };
    }

-- what a Control answers there
abbrev pub control_reply : Endpoint → Option Reply
control_reply e = option_map (λ o. o.reply) (step e 0 calls.Control replies.Ok)
