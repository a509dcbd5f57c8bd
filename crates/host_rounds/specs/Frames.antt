-- What a host's histories and its log show of the frames that came to it.
use Rattle.std.specs.Prelude.{◌≡◌, Bool, true, ⊤}
use Rattle.tas_model.specs.declared.entry.FourTuple.{FourTuple}
use Rattle.tas_model.specs.declared.entry.FrameId.{FrameId}
use Rattle.tas_model.specs.declared.entry.Seg.{Seg}
use Rattle.tas_model.specs.declared.entry.Entry.{Entry}
use Rattle.tas_model.specs.declared.entry.Call.{Call}
use Rattle.tas_model.specs.declared.entry.Call.TheVariants as calls
use Rattle.host_rounds.specs.declared.log.LogLine.{LogLine}
use Rattle.host_rounds.specs.declared.log.LogEvent.{LogEvent}
use Rattle.host_rounds.specs.declared.log.LogEvent.TheVariants as events
use Rattle.host_rounds.specs.Lists.{Each}
use Rattle.host_rounds.specs.Hosts.{Live, Host}
use Rattle.host_rounds.specs.Deliveries.{Arrival, Damaged, Segment}

-- In each of these, `came` is any test that all frames which came pass: of an `Arrival` in particular that it is one
-- of them.

-- this segment came in this frame
abbrev pub Came : (came : Arrival → Bool) → FrameId → FourTuple → Seg → Type 0
Came came frame tuple seg = came (record { frame = frame; packet = Segment tuple seg }) ≡ true

-- the call takes a segment that came in its frame, with this four-tuple
abbrev pub TakesFrame : (came : Arrival → Bool) → FourTuple → Call → Type 0
TakesFrame came tuple (calls.Passive frame iss seg) = Came came frame tuple seg
TakesFrame came tuple (calls.Rx frame seg) = Came came frame tuple seg
TakesFrame came tuple _ = ⊤

-- each entry of the flow with a segment has one that came in its frame, with the flow's four-tuple
abbrev pub TookFrames : (came : Arrival → Bool) → Live → Type 0
TookFrames came l = Each (λ (x : Entry). TakesFrame came l.flow.tuple x.call) l.flow.entries

-- the line shows what came in its frame
abbrev pub ShowsFrame : (came : Arrival → Bool) → LogEvent → Type 0
ShowsFrame came (events.Stray frame tuple seg answer) = Came came frame tuple seg
ShowsFrame came (events.Refused frame rule) = came (record { frame = frame; packet = Damaged rule }) ≡ true
ShowsFrame came _ = ⊤

abbrev pub LineShowsFrame : (came : Arrival → Bool) → LogLine → Type 0
LineShowsFrame came line = ShowsFrame came line.event

-- The host took and shows what came, and nothing else.
pub record IsOfFrames (came : Arrival → Bool) (host : Host) : Type 0 where
  pub flows : Each (TookFrames came) host.flows
  pub lines : Each (LineShowsFrame came) host.log
