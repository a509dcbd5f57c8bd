-- Entries at the front of a text.
use Rattle.std.specs.Prelude.{ℕ, List, [], ◌∷◌, codes, Option}
use Rattle.tas_model.specs.declared.entry.FrameId.{FrameId}
use Rattle.tas_model.specs.declared.entry.Head.{Head}
use Rattle.tas_model.specs.declared.entry.Seg.{Seg}
use Rattle.tas_model.specs.declared.entry.Reason.{Reason}
use Rattle.tas_model.specs.declared.entry.Caller.{Caller}
use Rattle.tas_model.specs.declared.entry.Call.{Call}
use Rattle.tas_model.specs.declared.entry.Call.TheVariants as calls
use Rattle.tas_model.specs.declared.entry.Reply.{Reply}
use Rattle.tas_model.specs.declared.entry.Reply.TheVariants as replies
use Rattle.tas_model.specs.declared.entry.Entry.{Entry}
use Rattle.report_lines.specs.Fronts.{Reader, word, made, after, both, maybe, one_of, u32, u64, hex_bytes}
use Rattle.report_lines.specs.Segments.{head, seg}
use Rattle.report_lines.specs.Origins.{caller, reason, frame}

-- ----- calls
abbrev pub connect_of : ℕ → Call
connect_of iss = calls.Connect (record { 0 = iss })

abbrev pub passive_of : FrameId × (ℕ × Seg) → Call
passive_of (frame, (iss, seg)) = calls.Passive frame (record { 0 = iss }) seg

abbrev pub rx_of : FrameId × Seg → Call
rx_of (frame, seg) = calls.Rx frame seg

unfoldable pub connect : Reader Call
connect = made connect_of (after (codes "connect iss ") u32)

unfoldable pub passive : (names : List (List ℕ)) → Reader Call
passive names = made passive_of (after (codes "passive ") (both (frame names)
    (both (after (codes " iss ") u32) (after (codes " ") seg))))

unfoldable pub rx : (names : List (List ℕ)) → Reader Call
rx names = made rx_of (after (codes "rx ") (both (frame names) (after (codes " ") seg)))

unfoldable pub send : Reader Call
send = made (λ (n : ℕ). calls.Send n) (after (codes "send ") u32)

unfoldable pub recv : Reader Call
recv = made (λ (n : ℕ). calls.Recv n) (after (codes "recv ") u32)

-- calls of an application that are of one word
abbrev pub asked_of : List (Reader Call)
asked_of = word (codes "accept") calls.Accept ∷ word (codes "ready") calls.Ready ∷ word (codes "shut") calls.Shut
    ∷ word (codes "close") calls.Close ∷ word (codes "abort") calls.Abort ∷ []

-- the most frequent ones first
abbrev pub calls_of : (names : List (List ℕ)) → List (Reader Call)
calls_of names = word (codes "tick") calls.Tick ∷ rx names ∷ word (codes "emit") calls.Emit ∷ recv ∷ send
    ∷ word (codes "control") calls.Control ∷ connect ∷ passive names ∷ asked_of

unfoldable pub call : (names : List (List ℕ)) → Reader Call
call names = one_of (calls_of names)

-- ----- replies
unfoldable pub sent_reply : Reader Reply
sent_reply = made (λ (s : Seg). replies.Sent s) seg

unfoldable pub took : Reader Reply
took = made (λ (bytes : List ℕ). replies.Took bytes) (after (codes "took ") hex_bytes)

-- the bytes, and the update of a Recv, where it sent one
abbrev pub got_of : List ℕ × Option Head → Reply
got_of (bytes, update) = replies.Got bytes update

unfoldable pub got : Reader Reply
got = made got_of (after (codes "got ") (both hex_bytes (maybe (codes " then ") head)))

unfoldable pub closed : Reader Reply
closed = made (λ (why : Reason). replies.Closed why) (after (codes "closed ") reason)

abbrev pub window_of : ℕ × ℕ → Reply
window_of (cwnd, ssthresh) = replies.Window cwnd ssthresh

unfoldable pub window : Reader Reply
window = made window_of (both (after (codes "cwnd ") u32) (after (codes " ssthresh ") u32))

-- replies of one word that come seldom
abbrev pub worded_of : List (Reader Reply)
worded_of = word (codes "notopen") replies.NotOpen ∷ word (codes "end") replies.End ∷ word (codes "shut")
    replies.Shut
    ∷ word (codes "resend") replies.Resend ∷ word (codes "probe") replies.Probe
    ∷ word (codes "done") replies.Expired ∷ word (codes "timedout") replies.TimedOut ∷ []

abbrev pub replies_of : List (Reader Reply)
replies_of = sent_reply ∷ word (codes "quiet") replies.Quiet ∷ word (codes "none") replies.Nothing
    ∷ word (codes "notyet") replies.NotYet ∷ word (codes "ok") replies.Ok ∷ took ∷ got ∷ window ∷ closed ∷ worded_of

unfoldable pub reply : Reader Reply
reply = one_of replies_of

-- ----- entries
-- what follows the tick: the caller with the entry's number, the call and the reply
abbrev pub entry_of : (tick : ℕ) → Caller × (ℕ × (Call × Reply)) → Entry
entry_of tick (caller, (number, (call, reply))) =
    record { caller = caller; number = number; tick = tick; call = call; reply = reply }

unfoldable pub entry : (names : List (List ℕ)) → (tick : ℕ) → Reader Entry
entry names tick = made (entry_of tick) (both caller (both (after (codes ".") u64)
    (both (after (codes " ") (call names)) (after (codes " = ") reply))))
