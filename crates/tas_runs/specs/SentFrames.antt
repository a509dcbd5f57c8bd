-- The frames that a run sends, written as a capture.
use Rattle.std.specs.Prelude.{◌≡◌, ℕ, zero, suc, ◌+◌, ◌==◌, List, [], ◌∷◌, ◌++◌, flat_map, Option, Some, None}
use Rattle.std.specs.Prelude.{if◌then◌else◌}
use Rattle.tas_num.specs.Captures.{file_header, record_bytes}
use Rattle.segment_fields.specs.Fields.{Fields}
use Rattle.segment_fields.specs.Canon.{canon}
use Rattle.tas_model.specs.declared.entry.FourTuple.{FourTuple}
use Rattle.tas_model.specs.declared.entry.Head.{Head}
use Rattle.tas_model.specs.declared.entry.Seg.{Seg}
use Rattle.tas_model.specs.declared.entry.Entry.{Entry}
use Rattle.tas_model.specs.Segments.{bare}
use Rattle.tas_model.specs.Outputs.{segments_in, sent}
use Rattle.host_rounds.specs.declared.log.LogLine.{LogLine}
use Rattle.host_rounds.specs.declared.log.LogEvent.{LogEvent}
use Rattle.host_rounds.specs.declared.log.LogEvent.TheVariants as events
use Rattle.host_rounds.specs.Logs.{Flow, HostRun, RunLog}

-- ----- one packet
-- the fields of a segment that the local end of this four-tuple sends
abbrev pub sent_fields : FourTuple → Seg → Fields
sent_fields tuple seg =
    record {
      src = tuple.laddr;
      dst = tuple.raddr;
      sport = tuple.lport;
      dport = tuple.rport;
      seq = seg.head.seq.0;
      ack = seg.head.ack.0;
      flags = seg.head.flags;
      window = seg.head.window;
      mss = seg.head.mss;
      scale = seg.head.scale;
      payload = seg.bytes;
    }

-- A record for each segment, at this tick in seconds.
abbrev pub segments_bytes : (tick : ℕ) → FourTuple → List Seg → List ℕ
segments_bytes t tuple [] = []
segments_bytes t tuple (seg ∷ segs) = record_bytes t (canon (sent_fields tuple seg)) ++ segments_bytes t tuple segs

-- ----- one tick
-- what those of a list give that bear this tick, in their order
abbrev pub given_at : {X Y : Type 0} → (tick_of : X → ℕ) → (gives : X → List Y) → (tick : ℕ) → List X → List Y
given_at tick_of gives t [] = []
given_at tick_of gives t (x ∷ xs) = (if tick_of x == t then gives x else []) ++ given_at tick_of gives t xs

-- the segments that a history sent in this tick
abbrev pub sent_at : (tick : ℕ) → List Entry → List Seg
sent_at t h = given_at (λ (x : Entry). x.tick) (λ (x : Entry). segments_in x.reply) t h

-- those of all flows, by their opening
abbrev pub flows_at : (tick : ℕ) → List Flow → List ℕ
flows_at t [] = []
flows_at t (f ∷ fs) = segments_bytes t f.tuple (sent_at t f.entries) ++ flows_at t fs

-- the answer that a segment of no flow got
abbrev pub answer_in : (tick : ℕ) → FourTuple → Option Head → List ℕ
answer_in t tuple None = []
answer_in t tuple (Some head) = record_bytes t (canon (sent_fields tuple (bare head)))

abbrev pub answer_of : (tick : ℕ) → LogEvent → List ℕ
answer_of t (events.Stray frame tuple seg answer) = answer_in t tuple answer
answer_of t _ = []

abbrev pub answer_on : LogLine → List ℕ
answer_on l = answer_of l.tick l.event

abbrev pub strays_at : (tick : ℕ) → List LogLine → List ℕ
strays_at t log = given_at (λ (l : LogLine). l.tick) answer_on t log

-- host by host, those of no flow last
abbrev pub hosts_at : (tick : ℕ) → List HostRun → List ℕ
hosts_at t [] = []
hosts_at t (h ∷ hs) = flows_at t h.flows ++ strays_at t h.log ++ hosts_at t hs

-- ----- the whole
-- so many ticks, from this one on
abbrev pub ticks_from : (count tick : ℕ) → List HostRun → List ℕ
ticks_from zero t hosts = []
ticks_from (suc count) t hosts = hosts_at t hosts ++ ticks_from count (t + 1) hosts

-- The capture of a run: all that was sent, by tick, host and flow, and in the order of a flow's entries.
unfoldable pub capture : RunLog → List ℕ
capture log = file_header ++ ticks_from log.ticks 0 log.hosts

-- ----- nothing is left out
-- what is given in so many ticks, from this one on
abbrev pub given_within : {X Y : Type 0} → (tick_of : X → ℕ) → (gives : X → List Y) → (count tick : ℕ) → List X → List Y
given_within tick_of gives zero t xs = []
given_within tick_of gives (suc count) t xs = given_at tick_of gives t xs ++ given_within tick_of gives count (t + 1) xs

-- In the ticks of the run the flow sends all its segments, in their order.
abbrev pub IsShown : (ticks : ℕ) → Flow → Type 0
IsShown ticks f = given_within (λ (x : Entry). x.tick) (λ (x : Entry). segments_in x.reply) ticks 0 f.entries
    ≡ sent f.entries

-- And the host gives all its answers to segments of no flow.
abbrev pub AreAnswersShown : (ticks : ℕ) → List LogLine → Type 0
AreAnswersShown ticks log = given_within (λ (l : LogLine). l.tick) answer_on ticks 0 log ≡ flat_map answer_on log
