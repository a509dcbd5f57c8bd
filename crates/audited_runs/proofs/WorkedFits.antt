-- Whether the numbers of a log are in the ranges of their fields, by a test that computes.
use Rattle.std.proofs.Common.{◌≡◌, ℕ, ◌<◌, ◌^◌, ◌&&◌, Bool, true, List, [], ◌∷◌, nat_lt}
use Rattle.std.proofs.Common.{Option, Some, None, arith}
use Rattle.std.specs.Prelude.{IfSome}
use Rattle.std.proofs.lemmas.Bool.{and_parts}
use Rattle.std.proofs.lemmas.Bool.Decides.{nat_tests}
use Rattle.tas_model.specs.declared.entry.Call.{Call}
use Rattle.tas_model.specs.declared.entry.Call.TheVariants as calls
use Rattle.tas_model.specs.declared.entry.Caller.{Caller}
use Rattle.tas_model.specs.declared.entry.Caller.TheVariants.{Slow, Core, App}
use Rattle.tas_model.specs.declared.entry.Entry.{Entry}
use Rattle.tas_model.specs.declared.entry.FrameId.{FrameId}
use Rattle.tas_model.specs.declared.entry.Head.{Head}
use Rattle.tas_model.specs.declared.entry.Reply.{Reply}
use Rattle.tas_model.specs.declared.entry.Reply.TheVariants as replies
use Rattle.tas_model.specs.declared.entry.Seg.{Seg}
use Rattle.host_rounds.specs.declared.log.LogEvent.{LogEvent}
use Rattle.host_rounds.specs.declared.log.LogEvent.TheVariants as events
use Rattle.host_rounds.specs.declared.log.LogLine.{LogLine}
use Rattle.host_rounds.specs.Lists.{Each}
use Rattle.host_rounds.specs.Logs.{Flow, HostRun, RunLog}
use Rattle.log_ranges.specs.Ranges.{AreBytes, HeadFits, SegFits, FrameFits, CallerFits, CallFits, ReplyFits, EntryFits}
use Rattle.log_ranges.specs.Ranges.{EventFits, LineFits, FlowFits, HostFits, Fits}

-- ----- tests
below : (n k : ℕ) → nat_lt n k ≡ true → n < k
below n k e = grind (arith, nat_tests, e)

abbrev pub each : {X : Type 0} → (X → Bool) → List X → Bool
each test [] = true
each test (x ∷ xs) = test x && each test xs

each_is : {X : Type 0} (P : X → Type 0) (test : X → Bool) → ((x : X) → test x ≡ true → P x) → (xs : List X)
    → each test xs ≡ true → Each P xs
each_is P test tells [] e = tt
each_is P test tells (x ∷ xs) e =
    let parts = and_parts (test x) (each test xs) e in (tells x parts.0, each_is P test tells xs parts.1)

abbrev pub are_bytes : List ℕ → Bool
are_bytes [] = true
are_bytes (b ∷ bs) = nat_lt b (2 ^ 8) && are_bytes bs

bytes_are : (bs : List ℕ) → are_bytes bs ≡ true → AreBytes bs
bytes_are [] e = tt
bytes_are (b ∷ bs) e =
    let parts = and_parts (nat_lt b (2 ^ 8)) (are_bytes bs) e in (below b (2 ^ 8) parts.0, bytes_are bs parts.1)

abbrev pub option_low : (k : ℕ) → Option ℕ → Bool
option_low k None = true
option_low k (Some n) = nat_lt n k

option_is : (k : ℕ) (o : Option ℕ) → option_low k o ≡ true → IfSome o (λ n. n < k)
option_is k None e = tt
option_is k (Some n) e = below n k e

-- ----- segments
abbrev pub head_fits : Head → Bool
head_fits h =
    nat_lt h.flags (2 ^ 8) && (nat_lt h.seq.0 (2 ^ 32) && (nat_lt h.ack.0 (2 ^ 32) && (nat_lt h.window (2 ^ 16)
    && (option_low (2 ^ 16) h.mss && option_low (2 ^ 8) h.scale))))

head_is : (h : Head) → head_fits h ≡ true → HeadFits h
head_is h e =
    let a = and_parts (nat_lt h.flags (2 ^ 8)) _ e in
    let b = and_parts (nat_lt h.seq.0 (2 ^ 32)) _ a.1 in
    let c = and_parts (nat_lt h.ack.0 (2 ^ 32)) _ b.1 in
    let d = and_parts (nat_lt h.window (2 ^ 16)) _ c.1 in
    let f = and_parts (option_low (2 ^ 16) h.mss) _ d.1 in
    record {
      flags = below h.flags (2 ^ 8) a.0;
      seq = below h.seq.0 (2 ^ 32) b.0;
      ack = below h.ack.0 (2 ^ 32) c.0;
      window = below h.window (2 ^ 16) d.0;
      mss = option_is (2 ^ 16) h.mss f.0;
      scale = option_is (2 ^ 8) h.scale f.1;
    }

abbrev pub seg_fits : Seg → Bool
seg_fits s = head_fits s.head && are_bytes s.bytes

seg_is : (s : Seg) → seg_fits s ≡ true → SegFits s
seg_is s e =
    let a = and_parts (head_fits s.head) (are_bytes s.bytes) e in
    record { head = head_is s.head a.0; bytes = bytes_are s.bytes a.1 }

abbrev pub update_fits : Option Head → Bool
update_fits None = true
update_fits (Some h) = head_fits h

update_is : (o : Option Head) → update_fits o ≡ true → IfSome o HeadFits
update_is None e = tt
update_is (Some h) e = head_is h e

abbrev pub frame_fits : FrameId → Bool
frame_fits f = nat_lt f.flow (2 ^ 32) && nat_lt f.number (2 ^ 64)

frame_is : (f : FrameId) → frame_fits f ≡ true → FrameFits f
frame_is f e =
    let a = and_parts (nat_lt f.flow (2 ^ 32)) (nat_lt f.number (2 ^ 64)) e in
    record { flow = below f.flow (2 ^ 32) a.0; number = below f.number (2 ^ 64) a.1 }

-- ----- entries
abbrev pub caller_fits : Caller → Bool
caller_fits Slow = true
caller_fits (Core k) = nat_lt k (2 ^ 32)
caller_fits (App k) = nat_lt k (2 ^ 32)

caller_is : (c : Caller) → caller_fits c ≡ true → CallerFits c
caller_is Slow e = tt
caller_is (Core k) e = below k (2 ^ 32) e
caller_is (App k) e = below k (2 ^ 32) e

abbrev pub call_fits : Call → Bool
call_fits (calls.Connect iss) = nat_lt iss.0 (2 ^ 32)
call_fits (calls.Passive frame iss seg) = frame_fits frame && (nat_lt iss.0 (2 ^ 32) && seg_fits seg)
call_fits (calls.Rx frame seg) = frame_fits frame && seg_fits seg
call_fits (calls.Send offered) = nat_lt offered (2 ^ 32)
call_fits (calls.Recv most) = nat_lt most (2 ^ 32)
call_fits _ = true

call_is : (c : Call) → call_fits c ≡ true → CallFits c
call_is (calls.Connect iss) e = below iss.0 (2 ^ 32) e
call_is (calls.Passive frame iss seg) e =
    let a = and_parts (frame_fits frame) _ e in
    let b = and_parts (nat_lt iss.0 (2 ^ 32)) _ a.1 in
    (frame_is frame a.0, below iss.0 (2 ^ 32) b.0, seg_is seg b.1)
call_is (calls.Rx frame seg) e =
    let a = and_parts (frame_fits frame) _ e in (frame_is frame a.0, seg_is seg a.1)
call_is (calls.Send offered) e = below offered (2 ^ 32) e
call_is (calls.Recv most) e = below most (2 ^ 32) e
call_is _ e = tt

abbrev pub reply_fits : Reply → Bool
reply_fits (replies.Sent seg) = seg_fits seg
reply_fits (replies.Took bytes) = are_bytes bytes
reply_fits (replies.Got bytes update) = are_bytes bytes && update_fits update
reply_fits (replies.Window cwnd ssthresh) = nat_lt cwnd (2 ^ 32) && nat_lt ssthresh (2 ^ 32)
reply_fits _ = true

reply_is : (r : Reply) → reply_fits r ≡ true → ReplyFits r
reply_is (replies.Sent seg) e = seg_is seg e
reply_is (replies.Took bytes) e = bytes_are bytes e
reply_is (replies.Got bytes update) e =
    let a = and_parts (are_bytes bytes) (update_fits update) e in (bytes_are bytes a.0, update_is update a.1)
reply_is (replies.Window cwnd ssthresh) e =
    let a = and_parts (nat_lt cwnd (2 ^ 32)) (nat_lt ssthresh (2 ^ 32)) e in
    (below cwnd (2 ^ 32) a.0, below ssthresh (2 ^ 32) a.1)
reply_is _ e = tt

abbrev pub entry_fits : Entry → Bool
entry_fits x =
    nat_lt x.tick (2 ^ 32) && (caller_fits x.caller && (nat_lt x.number (2 ^ 64)
    && (call_fits x.call && reply_fits x.reply)))

entry_is : (x : Entry) → entry_fits x ≡ true → EntryFits x
entry_is x e =
    let a = and_parts (nat_lt x.tick (2 ^ 32)) _ e in
    let b = and_parts (caller_fits x.caller) _ a.1 in
    let c = and_parts (nat_lt x.number (2 ^ 64)) _ b.1 in
    let d = and_parts (call_fits x.call) _ c.1 in
    record {
      tick = below x.tick (2 ^ 32) a.0;
      caller = caller_is x.caller b.0;
      number = below x.number (2 ^ 64) c.0;
      call = call_is x.call d.0;
      reply = reply_is x.reply d.1;
    }

-- ----- lines of a log
abbrev pub event_fits : LogEvent → Bool
event_fits (events.Listen app port ok) = nat_lt app (2 ^ 32) && nat_lt port (2 ^ 16)
event_fits (events.AcceptNotYet app port) = nat_lt app (2 ^ 32) && nat_lt port (2 ^ 16)
event_fits (events.ConnectRefused app raddr rport no_port) =
    nat_lt app (2 ^ 32) && (nat_lt raddr (2 ^ 32) && nat_lt rport (2 ^ 16))
event_fits (events.Stray frame tuple seg answer) = frame_fits frame && (seg_fits seg && update_fits answer)
event_fits (events.Dropped frame backlog) = frame_fits frame
event_fits (events.Refused frame rule) = frame_fits frame && nat_lt rule (2 ^ 8)

event_is : (v : LogEvent) → event_fits v ≡ true → EventFits v
event_is (events.Listen app port ok) e =
    let a = and_parts (nat_lt app (2 ^ 32)) _ e in (below app (2 ^ 32) a.0, below port (2 ^ 16) a.1)
event_is (events.AcceptNotYet app port) e =
    let a = and_parts (nat_lt app (2 ^ 32)) _ e in (below app (2 ^ 32) a.0, below port (2 ^ 16) a.1)
event_is (events.ConnectRefused app raddr rport no_port) e =
    let a = and_parts (nat_lt app (2 ^ 32)) _ e in
    let b = and_parts (nat_lt raddr (2 ^ 32)) _ a.1 in
    (below app (2 ^ 32) a.0, below raddr (2 ^ 32) b.0, below rport (2 ^ 16) b.1)
event_is (events.Stray frame tuple seg answer) e =
    let a = and_parts (frame_fits frame) _ e in
    let b = and_parts (seg_fits seg) (update_fits answer) a.1 in
    (frame_is frame a.0, seg_is seg b.0, update_is answer b.1)
event_is (events.Dropped frame backlog) e = frame_is frame e
event_is (events.Refused frame rule) e =
    let a = and_parts (frame_fits frame) _ e in (frame_is frame a.0, below rule (2 ^ 8) a.1)

abbrev pub line_fits : LogLine → Bool
line_fits l = nat_lt l.tick (2 ^ 32) && event_fits l.event

line_is : (l : LogLine) → line_fits l ≡ true → LineFits l
line_is l e =
    let a = and_parts (nat_lt l.tick (2 ^ 32)) _ e in
    record { tick = below l.tick (2 ^ 32) a.0; event = event_is l.event a.1 }

-- ----- the whole
abbrev pub flow_fits : Flow → Bool
flow_fits f =
    nat_lt f.id.slot (2 ^ 32) && (nat_lt f.id.generation (2 ^ 32) && (nat_lt f.tuple.laddr (2 ^ 32)
    && (nat_lt f.tuple.lport (2 ^ 16) && (nat_lt f.tuple.raddr (2 ^ 32) && (nat_lt f.tuple.rport (2 ^ 16)
    && each entry_fits f.entries)))))

flow_is : (f : Flow) → flow_fits f ≡ true → FlowFits f
flow_is f e =
    let a = and_parts (nat_lt f.id.slot (2 ^ 32)) _ e in
    let b = and_parts (nat_lt f.id.generation (2 ^ 32)) _ a.1 in
    let c = and_parts (nat_lt f.tuple.laddr (2 ^ 32)) _ b.1 in
    let d = and_parts (nat_lt f.tuple.lport (2 ^ 16)) _ c.1 in
    let g = and_parts (nat_lt f.tuple.raddr (2 ^ 32)) _ d.1 in
    let h = and_parts (nat_lt f.tuple.rport (2 ^ 16)) _ g.1 in
    record {
      ends = record {
        slot = below f.id.slot (2 ^ 32) a.0;
        generation = below f.id.generation (2 ^ 32) b.0;
        laddr = below f.tuple.laddr (2 ^ 32) c.0;
        lport = below f.tuple.lport (2 ^ 16) d.0;
        raddr = below f.tuple.raddr (2 ^ 32) g.0;
        rport = below f.tuple.rport (2 ^ 16) h.0;
      };
      entries = each_is EntryFits entry_fits entry_is f.entries h.1;
    }

abbrev pub host_fits : HostRun → Bool
host_fits h = nat_lt h.addr (2 ^ 32) && (each line_fits h.log && each flow_fits h.flows)

host_is : (h : HostRun) → host_fits h ≡ true → HostFits h
host_is h e =
    let a = and_parts (nat_lt h.addr (2 ^ 32)) _ e in
    let b = and_parts (each line_fits h.log) (each flow_fits h.flows) a.1 in
    record {
      addr = below h.addr (2 ^ 32) a.0;
      log = each_is LineFits line_fits line_is h.log b.0;
      flows = each_is FlowFits flow_fits flow_is h.flows b.1;
    }

abbrev pub fits : RunLog → Bool
fits log = nat_lt log.ticks (2 ^ 32) && each host_fits log.hosts

pub fits_is : (log : RunLog) → fits log ≡ true → Fits log
fits_is log e =
    let a = and_parts (nat_lt log.ticks (2 ^ 32)) (each host_fits log.hosts) e in
    record { hosts = each_is HostFits host_fits host_is log.hosts a.1; ticks = below log.ticks (2 ^ 32) a.0 }
