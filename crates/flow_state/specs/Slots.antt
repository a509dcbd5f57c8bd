-- Which entry a slot means: its bytes stand in the record's memory.
use Rattle.std.specs.Prelude.{◌≡◌, ℕ, ◌+◌, ◌<◌, ◌≤◌, List, [], length, take, drop, slice_get, Option, Some, None, ⊤}
use Rattle.segment_fields.specs.declared.segment.Segment.{Segment}
use Rattle.tas_num.specs.declared.seq.Seq.{Seq}
use Rattle.tas_model.specs.declared.entry.Call.{Call}
use Rattle.tas_model.specs.declared.entry.Call.TheVariants as calls
use Rattle.tas_model.specs.declared.entry.Reply.{Reply}
use Rattle.tas_model.specs.declared.entry.Reply.TheVariants as replies
use Rattle.tas_model.specs.declared.entry.Entry.{Entry}
use Rattle.tas_model.specs.declared.entry.Head.{Head}
use Rattle.tas_model.specs.declared.entry.FrameId.{FrameId}
use Rattle.tas_model.specs.declared.entry.Seg.{Seg}
use Rattle.flow_state.specs.declared.slot.Span.{Span}
use Rattle.flow_state.specs.declared.slot.HeadSlot.{HeadSlot}
use Rattle.flow_state.specs.declared.slot.CameSlot.{CameSlot}
use Rattle.flow_state.specs.declared.slot.CallSlot.{CallSlot}
use Rattle.flow_state.specs.declared.slot.CallSlot.TheVariants as cs
use Rattle.flow_state.specs.declared.slot.ReplySlot.{ReplySlot}
use Rattle.flow_state.specs.declared.slot.ReplySlot.TheVariants as rs
use Rattle.flow_state.specs.declared.slot.Slot.{Slot}
use Rattle.flow_state.specs.declared.call.CallIn.{CallIn}
use Rattle.flow_state.specs.declared.call.CallIn.TheVariants as ins
use Rattle.flow_state.specs.Arena.{Memory}

-- these bytes stand in the memory from a place on
abbrev pub Holds : List ℕ → ℕ → List ℕ → Type 0
Holds arena from bytes = take (length bytes) (drop from arena) ≡ bytes

-- the bytes of a span
abbrev pub bytes_at : List ℕ → Span → List ℕ
bytes_at arena s = take s.len (drop s.from arena)

-- the span ends at or before the n-th byte
abbrev pub SpanWithin : ℕ → Span → Type 0
SpanWithin n s = s.from + s.len ≤ n

-- the header of a slot
abbrev pub head_in : HeadSlot → Head
head_in h = record {
  flags = h.flags;
  seq = h.seq;
  ack = h.ack;
  window = h.window;
  mss = h.mss;
  scale = h.scale;
}

-- ----- segments that came
-- the frame of a segment that came
abbrev pub frame_in : CameSlot → FrameId
frame_in c = record { host = c.host; flow = c.flow; number = c.number; copy = c.copy }

-- a segment that came in this frame, with the own first number of the flow that it opens
abbrev pub came_of : FrameId → (iss : Seq) → Segment → CameSlot
came_of frame iss s = record {
  number = frame.number;
  host = frame.host;
  flow = frame.flow;
  copy = frame.copy;
  iss = iss;
  head = record {
    seq = s.seq;
    ack = s.ack;
    window = s.window;
    mss = s.mss;
    flags = s.flags.0;
    scale = s.scale;
  };
}

-- how many segments the call brings
abbrev pub came_count : CallIn → ℕ
came_count (ins.Passive frame iss seg) = 1
came_count (ins.Rx frame seg) = 1
came_count _ = 0

-- Where the call brings a segment, it stands in the list at this place, and has 0 as own first number if it opens no
-- flow.
abbrev pub HasCame : List CameSlot → ℕ → CallIn → Type 0
HasCame came at (ins.Passive frame iss seg) =
    (at < length came) × (slice_get came at ≡ Some (came_of frame iss seg))
HasCame came at (ins.Rx frame seg) =
    (at < length came) × (slice_get came at ≡ Some (came_of frame (record { 0 = 0 }) seg))
HasCame came at _ = ⊤

-- where the slot's call brought a segment, that is one of the first n that came
abbrev pub CameWithin : ℕ → CallSlot → Type 0
CameWithin n (cs.Passive at) = at < n
CameWithin n (cs.Rx at) = at < n
CameWithin n _ = ⊤

-- ----- what slots mean
-- a call with the segment that came, with these bytes; where none came it's Emit, which `CameWithin` rules out
abbrev pub call_with : (CameSlot → Seg → Call) → List ℕ → Option CameSlot → Call
call_with call bytes (Some c) = call c (record { head = head_in c.head; bytes = bytes })
call_with call bytes None = calls.Emit

-- the call of a slot with these bytes
abbrev pub call_in : List CameSlot → List ℕ → CallSlot → Call
call_in came bytes (cs.Connect iss) = calls.Connect iss
call_in came bytes (cs.Passive at) =
    call_with (λ c seg. calls.Passive (frame_in c) c.iss seg) bytes (slice_get came at)
call_in came bytes (cs.Rx at) = call_with (λ c seg. calls.Rx (frame_in c) seg) bytes (slice_get came at)
call_in came bytes cs.Emit = calls.Emit
call_in came bytes cs.Tick = calls.Tick
call_in came bytes cs.Control = calls.Control
call_in came bytes cs.Accept = calls.Accept
call_in came bytes cs.Ready = calls.Ready
call_in came bytes (cs.Send offered) = calls.Send offered
call_in came bytes (cs.Recv most) = calls.Recv most
call_in came bytes cs.Shut = calls.Shut
call_in came bytes cs.Close = calls.Close
call_in came bytes cs.Abort = calls.Abort

-- the bytes of the reply: those of a received segment are its own
abbrev pub reply_part : CallSlot → List ℕ → List ℕ
reply_part (cs.Passive at) bytes = []
reply_part (cs.Rx at) bytes = []
reply_part _ bytes = bytes

-- the header with these fields
abbrev pub header : (flags window : ℕ) (seq ack : Seq) (mss scale : Option ℕ) → Head
header flags window seq ack mss scale =
    record { flags = flags; seq = seq; ack = ack; window = window; mss = mss; scale = scale }

-- the reply of a slot with these bytes
abbrev pub reply_in : List ℕ → ReplySlot → Reply
reply_in bytes rs.Ok = replies.Ok
reply_in bytes rs.Nothing = replies.Nothing
reply_in bytes (rs.Sent flags window seq ack mss scale) =
    replies.Sent (record { head = header flags window seq ack mss scale; bytes = bytes })
reply_in bytes rs.Took = replies.Took bytes
reply_in bytes rs.Got = replies.Got bytes None
reply_in bytes (rs.Update flags window seq ack mss scale) =
    replies.Got bytes (Some (header flags window seq ack mss scale))
reply_in bytes rs.End = replies.End
reply_in bytes rs.NotYet = replies.NotYet
reply_in bytes rs.NotOpen = replies.NotOpen
reply_in bytes rs.Shut = replies.Shut
reply_in bytes (rs.Closed reason) = replies.Closed reason
reply_in bytes rs.Quiet = replies.Quiet
reply_in bytes rs.Resend = replies.Resend
reply_in bytes rs.Probe = replies.Probe
reply_in bytes rs.Expired = replies.Expired
reply_in bytes rs.TimedOut = replies.TimedOut
reply_in bytes (rs.Window cwnd ssthresh) = replies.Window cwnd ssthresh

-- the entry of a slot at this tick
abbrev pub entry_of : Memory → (tick : ℕ) → Slot → Entry
entry_of memory tick s = record {
  caller = s.caller;
  number = s.number;
  tick = tick;
  call = call_in memory.came (bytes_at memory.bytes s.bytes) s.call;
  reply = reply_in (reply_part s.call (bytes_at memory.bytes s.bytes)) s.reply;
}

-- it names nothing but the first n bytes, and the first k segments that came
pub record IsWithin (n k : ℕ) (s : Slot) : Type 0 where
  pub bytes : SpanWithin n s.bytes
  pub came : CameWithin k s.call

-- a reply to a received segment has no bytes
abbrev pub IsBare : CallIn → ℕ → Type 0
IsBare (ins.Passive frame iss seg) n = n ≡ 0
IsBare (ins.Rx frame seg) n = n ≡ 0
IsBare _ n = ⊤
