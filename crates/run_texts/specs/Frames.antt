-- The frames that hosts sent, and their records in a capture.
use Rattle.std.specs.Prelude.{◌≡◌, ℕ, ◌==◌, ◌≤◌, nat_le, nat_lt, List, [], ◌∷◌, ◌++◌, length, map, filter, flat_map}
use Rattle.std.specs.Prelude.{option_to_list, Option, ⊤, if◌then◌else◌}
use Rattle.tas_num.specs.Captures.{record_bytes}
use Rattle.segment_fields.specs.Canon.{canon}
use Rattle.tas_model.specs.declared.entry.FourTuple.{FourTuple}
use Rattle.tas_model.specs.declared.entry.Seg.{Seg}
use Rattle.tas_model.specs.declared.entry.Entry.{Entry}
use Rattle.tas_model.specs.Segments.{bare}
use Rattle.tas_model.specs.Outputs.{segments_in, sent}
use Rattle.flow_state.specs.declared.view.SegView.{SegView}
use Rattle.flow_state.specs.Flow as states
use Rattle.flow_state.specs.Views.{seen_seg}
use Rattle.host_rounds.specs.declared.log.LogLine.{LogLine}
use Rattle.host_rounds.specs.declared.log.LogEvent.{LogEvent}
use Rattle.host_rounds.specs.declared.log.LogEvent.TheVariants as events
use Rattle.host_rounds.specs.Logs.{Flow, HostRun}
use Rattle.tas_runs.specs.SentFrames.{sent_fields}
use Rattle.tas_core.specs.Stretches.{lines_of}
use Rattle.run_texts.specs.declared.frames.Frame.{Frame}
use Rattle.run_texts.specs.declared.frames.HostFrames.{HostFrames}

-- ----- a frame
-- a segment that the local end of a four-tuple sent in a tick
pub record Sent : Type 0 where
  pub tick : ℕ
  pub tuple : FourTuple
  pub seg : Seg

abbrev pub seen_frame : Frame → Sent
seen_frame f = record { tick = f.tick; tuple = f.tuple; seg = seen_seg f.seg }

-- frames were put behind others
abbrev pub Adds : (before after : List Frame) → List Sent → Type 0
Adds before after more = map seen_frame after ≡ map seen_frame before ++ more

-- The record of a segment. One is left out that has more bytes than a packet has room for.
abbrev pub segment_record : (tick : ℕ) → FourTuple → Seg → List ℕ
segment_record t tuple seg = if nat_le (length seg.bytes) 65487 then record_bytes t (canon (sent_fields tuple seg))
    else []

abbrev pub sent_record : Sent → List ℕ
sent_record s = segment_record s.tick s.tuple s.seg

-- the same, where it was sent in the first ticks
abbrev pub frame_before : (ticks : ℕ) → Frame → List ℕ
frame_before ticks f = if nat_lt f.tick ticks then sent_record (seen_frame f) else []

-- ----- what was sent
abbrev pub segments_of : Option SegView → List Seg
segments_of seg = map seen_seg (option_to_list seg)

abbrev pub frames_in : (tick : ℕ) → FourTuple → List Seg → List Sent
frames_in t tuple segs = map (λ (s : Seg). record { tick = t; tuple = tuple; seg = s }) segs

-- those of a flow
abbrev pub entry_frames : FourTuple → Entry → List Sent
entry_frames tuple x = frames_in x.tick tuple (segments_in x.reply)

abbrev pub flow_frames : Flow → List Sent
flow_frames f = flat_map (entry_frames f.tuple) f.entries

-- the answer to a segment of no flow
abbrev pub event_frames : (tick : ℕ) → LogEvent → List Sent
event_frames t (events.Stray frame tuple seg answer) = frames_in t tuple (map bare (option_to_list answer))
event_frames t _ = []

abbrev pub answer_frames : LogLine → List Sent
answer_frames l = event_frames l.tick l.event

-- those of a host: first of its flows, then of no flow
abbrev pub host_frames : HostRun → List Sent
host_frames h = flat_map flow_frames h.flows ++ flat_map answer_frames h.log

-- host by host
abbrev pub all_frames : List HostRun → List Sent
all_frames hosts = flat_map host_frames hosts

-- ----- as the definitions of runs have them
-- the flow that a history is of
abbrev pub history_of : states.History → Flow
history_of f = record { id = f.id; tuple = f.tuple; params = f.params; entries = f.entries }

-- a host with these flows and this log
abbrev pub host_of : List Flow → List LogLine → HostRun
host_of flows log = record { name = []; addr = 0; log = log; flows = flows }

abbrev pub seen_host : HostFrames → HostRun
seen_host h = host_of (map history_of h.flows.now) (lines_of h.log.now)

-- each segment that a flow sent has room in a packet
abbrev pub AreAllShort : List Seg → Type 0
AreAllShort [] = ⊤
AreAllShort (s ∷ ss) = (length s.bytes ≤ 65487) × AreAllShort ss

abbrev pub AreFlowsShort : List Flow → Type 0
AreFlowsShort [] = ⊤
AreFlowsShort (f ∷ fs) = AreAllShort (sent f.entries) × AreFlowsShort fs

-- and each that a host's flows sent
abbrev pub AreShort : List HostRun → Type 0
AreShort [] = ⊤
AreShort (h ∷ hs) = AreFlowsShort h.flows × AreShort hs

-- ----- their order
-- the ticks don't fall
abbrev pub Rises : (low : ℕ) → List Sent → Type 0
Rises low [] = ⊤
Rises low (s ∷ ss) = (low ≤ s.tick) × Rises s.tick ss

-- the frames by their ticks, those of one tick in the order that they had
pub record IsInOrder (all : List Sent) (frames : List Frame) : Type 0 where
  pub rises : Rises 0 (map seen_frame frames)
  pub same : (t : ℕ) → filter (λ (s : Sent). s.tick == t) (map seen_frame frames)
      ≡ filter (λ (s : Sent). s.tick == t) all
