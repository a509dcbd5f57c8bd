-- What a call and an answer of the code mean in the model.
use Rattle.std.specs.Prelude.{◌≡◌, ℕ, ◌+◌, ◌^◌, ◌<◌, Bool, true, false, List, [], length, take, min, ⊤, Some}
use Rattle.segment_fields.specs.declared.segment.Segment.{Segment}
use Rattle.tas_model.specs.declared.entry.Call.{Call}
use Rattle.tas_model.specs.declared.entry.Call.TheVariants as calls
use Rattle.tas_model.specs.declared.entry.Reply.{Reply}
use Rattle.tas_model.specs.declared.entry.Reply.TheVariants as replies
use Rattle.tas_model.specs.declared.entry.Head.{Head}
use Rattle.tas_model.specs.declared.entry.Seg.{Seg}
use Rattle.tas_model.specs.declared.entry.Phase.{Phase}
use Rattle.tas_model.specs.declared.entry.Phase.TheVariants as phases
use Rattle.payload_ring.specs.Window.{room_of}
use Rattle.flow_state.specs.declared.parts.Parts.{Parts}
use Rattle.flow_state.specs.declared.call.CallIn.{CallIn}
use Rattle.flow_state.specs.declared.call.CallIn.TheVariants as ins
use Rattle.flow_state.specs.declared.call.Answer.{Answer}
use Rattle.flow_state.specs.declared.call.Answer.TheVariants as answers

-- ----- calls
-- the header of a segment of the code
abbrev pub head_of : Segment → Head
head_of s = record {
  flags = s.flags.0;
  seq = s.seq;
  ack = s.ack;
  window = s.window;
  mss = s.mss;
  scale = s.scale;
}

-- the segment, with its payload as a list
abbrev pub seg_of : Segment → Seg
seg_of s = record { head = head_of s; bytes = s.payload.now }

-- the model's call; of a Send it keeps the number of bytes alone
abbrev pub call_of : CallIn → Call
call_of (ins.Connect iss) = calls.Connect iss
call_of (ins.Passive frame iss seg) = calls.Passive frame iss (seg_of seg)
call_of (ins.Rx frame seg) = calls.Rx frame (seg_of seg)
call_of ins.Emit = calls.Emit
call_of ins.Tick = calls.Tick
call_of ins.Control = calls.Control
call_of ins.Accept = calls.Accept
call_of ins.Ready = calls.Ready
call_of (ins.Send bytes) = calls.Send (length bytes.now)
call_of (ins.Recv most) = calls.Recv most
call_of ins.Shut = calls.Shut
call_of ins.Close = calls.Close
call_of ins.Abort = calls.Abort

-- the bytes that a Send offers
abbrev pub offer_of : CallIn → List ℕ
offer_of (ins.Send bytes) = bytes.now
offer_of _ = []

-- the bytes that a call brings and its entry keeps
abbrev pub payload_of : CallIn → List ℕ
payload_of (ins.Passive frame iss seg) = seg.payload.now
payload_of (ins.Rx frame seg) = seg.payload.now
payload_of _ = []

-- ----- answers
-- the reply whose bytes stand first in `out`
abbrev pub reply_of : Answer → List ℕ → Reply
reply_of answers.Ok out = replies.Ok
reply_of answers.Nothing out = replies.Nothing
reply_of (answers.Sent head len) out = replies.Sent (record { head = head; bytes = take len out })
reply_of (answers.Took len) out = replies.Took (take len out)
reply_of (answers.Got len update) out = replies.Got (take len out) update
reply_of answers.End out = replies.End
reply_of answers.NotYet out = replies.NotYet
reply_of answers.NotOpen out = replies.NotOpen
reply_of answers.Shut out = replies.Shut
reply_of (answers.Closed reason) out = replies.Closed reason
reply_of answers.Quiet out = replies.Quiet
reply_of answers.Resend out = replies.Resend
reply_of answers.Probe out = replies.Probe
reply_of answers.Expired out = replies.Expired
reply_of answers.TimedOut out = replies.TimedOut
reply_of (answers.Window cwnd ssthresh) out = replies.Window cwnd ssthresh

-- the reply with the number of its bytes in place of them
abbrev pub answer_of : Reply → Answer
answer_of replies.Ok = answers.Ok
answer_of replies.Nothing = answers.Nothing
answer_of (replies.Sent seg) = answers.Sent seg.head (length seg.bytes)
answer_of (replies.Took bytes) = answers.Took (length bytes)
answer_of (replies.Got bytes update) = answers.Got (length bytes) update
answer_of replies.End = answers.End
answer_of replies.NotYet = answers.NotYet
answer_of replies.NotOpen = answers.NotOpen
answer_of replies.Shut = answers.Shut
answer_of (replies.Closed reason) = answers.Closed reason
answer_of replies.Quiet = answers.Quiet
answer_of replies.Resend = answers.Resend
answer_of replies.Probe = answers.Probe
answer_of replies.Expired = answers.Expired
answer_of replies.TimedOut = answers.TimedOut
answer_of (replies.Window cwnd ssthresh) = answers.Window cwnd ssthresh

-- the bytes of a reply
abbrev pub reply_bytes : Reply → List ℕ
reply_bytes (replies.Sent seg) = seg.bytes
reply_bytes (replies.Took bytes) = bytes
reply_bytes (replies.Got bytes update) = bytes
reply_bytes _ = []

-- how many bytes the reply has
abbrev pub answer_len : Answer → ℕ
answer_len (answers.Sent head len) = len
answer_len (answers.Took len) = len
answer_len (answers.Got len update) = len
answer_len _ = 0

-- how many segments the reply has
abbrev pub segment_count : Answer → ℕ
segment_count (answers.Sent head len) = 1
segment_count (answers.Got len (Some head)) = 1
segment_count _ = 0

-- ----- conditions
-- how many bytes a reply to it may have here: a Send takes what fits, a Recv gives what is unread, and a segment has no
-- more than its MSS allows, nor than the ring holds
abbrev pub reply_room : Parts → CallIn → ℕ
reply_room p (ins.Send bytes) = min (length bytes.now) (room_of p.tx)
reply_room p (ins.Recv most) = min most (length p.rx.bytes)
reply_room p ins.Emit = min p.smss (length p.tx.bytes)
reply_room p _ = 0

-- how many bytes its reply, and its own payload, take at most here
abbrev pub need_of : Parts → CallIn → ℕ
need_of p call = reply_room p call + length (payload_of call)

-- the same wherever the connection stands, at this send MSS
abbrev pub cost_of : (mss : ℕ) → CallIn → ℕ
cost_of mss (ins.Passive frame iss seg) = length seg.payload.now
cost_of mss (ins.Rx frame seg) = length seg.payload.now
cost_of mss (ins.Send bytes) = length bytes.now
cost_of mss (ins.Recv most) = most
cost_of mss ins.Emit = mss
cost_of mss _ = 0

-- a Send offers fewer than 2^32 bytes
abbrev pub IsSmall : CallIn → Type 0
IsSmall (ins.Send bytes) = length bytes.now < 2 ^ 32
IsSmall _ = ⊤

-- past SYN-RECEIVED and before CLOSED
abbrev pub is_running : Phase → Bool
is_running phases.SynSent = false
is_running phases.SynReceived = false
is_running phases.Closed = false
is_running _ = true

-- CLOSED
abbrev pub is_closed_phase : Phase → Bool
is_closed_phase phases.Closed = true
is_closed_phase _ = false

-- the call is a step in this phase
abbrev pub IsTimely : Phase → CallIn → Type 0
IsTimely phase ins.Accept = is_running phase ≡ true
IsTimely phase ins.Control = is_running phase ≡ true
IsTimely phase ins.Tick = is_closed_phase phase ≡ false
IsTimely phase _ = ⊤
