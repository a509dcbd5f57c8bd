-- Where the segments that a flow took came from.
use Rattle.std.specs.Prelude.{◌≡◌, true, false, List, [], ◌∷◌, ◌++◌, Some, None, Contains, if◌then◌else◌, ⊤}
use Rattle.std.specs.Option.{option_map}
use Rattle.segment_fields.specs.Options.{read_shift}
use Rattle.tas_model.specs.declared.entry.FourTuple.{FourTuple}
use Rattle.tas_model.specs.declared.entry.Call.{Call}
use Rattle.tas_model.specs.declared.entry.Call.TheVariants as calls
use Rattle.tas_model.specs.declared.entry.Entry.{Entry}
use Rattle.tas_model.specs.declared.entry.Head.{Head}
use Rattle.tas_model.specs.declared.entry.Seg.{Seg}
use Rattle.tas_model.specs.Segments.{bare, is_rst, is_syn}
use Rattle.tas_model.specs.Receive.{is_heard}
use Rattle.tas_model.specs.Outputs.{sent}
use Rattle.host_rounds.specs.declared.log.LogLine.{LogLine}
use Rattle.host_rounds.specs.Lists.{Each}
use Rattle.host_rounds.specs.Logs.{Flow, HostRun}
use Rattle.scenario_runs.specs.Worlds.{answer_on}
use Rattle.two_ends.specs.Ends.{reversed, flows_in}

-- A segment as it is read: an MSS and a shift count in a SYN alone, and a shift above 14 is read as 14.
abbrev pub as_read : Seg → Seg
as_read seg = record seg {
  head = record (seg.head) {
    mss = if is_syn seg then seg.head.mss else None;
    scale = option_map read_shift (if is_syn seg then seg.head.scale else None);
  };
}

-- A reset without payload and FIN.
abbrev pub IsReset : Seg → Type 0
IsReset seg = (is_rst seg ≡ true) × (is_heard seg ≡ false)

-- A flow of the run with this four-tuple sent it.
pub record WasSent (hosts : List HostRun) (tuple : FourTuple) (seg : Seg) : Type 0 where
  pub flow : Flow
  pub said : Seg
  pub among : Contains (flows_in hosts) flow
  pub own : flow.tuple ≡ tuple
  pub one : Contains (sent flow.entries) said
  pub read : seg ≡ as_read said

-- All lines of a run's logs.
abbrev pub lines_in : List HostRun → List LogLine
lines_in [] = []
lines_in (h ∷ hs) = h.log ++ lines_in hs

-- A host answered a segment of no flow by it, as a line of its log shows: it is a reset.
pub record WasAnswered (hosts : List HostRun) (tuple : FourTuple) (seg : Seg) : Type 0 where
  pub line : LogLine
  pub head : Head
  pub among : Contains (lines_in hosts) line
  pub shows : answer_on line.event ≡ Some (tuple, head)
  pub read : seg ≡ as_read (bare head)
  pub reset : IsReset seg

-- Where a segment with this four-tuple, as its sender sees it, came from.
pub data Origin (hosts : List HostRun) (tuple : FourTuple) (seg : Seg) : Type 0 where
  OfFlow : WasSent hosts tuple seg → Origin hosts tuple seg
  OfHost : WasAnswered hosts tuple seg → Origin hosts tuple seg

abbrev pub HasOrigin : List HostRun → FourTuple → Call → Type 0
HasOrigin hosts tuple (calls.Rx frame seg) = Origin hosts (reversed tuple) seg
HasOrigin hosts tuple (calls.Passive frame iss seg) = Origin hosts (reversed tuple) seg
HasOrigin hosts tuple _ = ⊤

-- Each segment that the flow took was sent to it.
abbrev pub TookWhatWasSent : List HostRun → Flow → Type 0
TookWhatWasSent hosts f = Each (λ (x : Entry). HasOrigin hosts f.tuple x.call) f.entries
