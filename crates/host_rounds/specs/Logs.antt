-- What a finished run leaves: of each host a log and a history for each flow, and the counts of a replay.
use Rattle.std.specs.Prelude.{ℕ, Bool, List}
use Rattle.tas_model.specs.declared.entry.HostParams.{HostParams}
use Rattle.tas_model.specs.declared.entry.FourTuple.{FourTuple}
use Rattle.tas_model.specs.declared.entry.FlowId.{FlowId}
use Rattle.tas_model.specs.declared.entry.Entry.{Entry}
use Rattle.host_rounds.specs.declared.log.LogLine.{LogLine}

-- A flow and its history: the slot that it had, its two ends, the parameters that it was opened with, and its entries,
-- the oldest first.
pub record Flow : Type 0 where
  pub id : FlowId
  pub tuple : FourTuple
  pub params : HostParams
  pub entries : List Entry

-- A host by its name, as bytes, and its address: the lines of its log in the order in which they came, and its flows in
-- the order of their opening.
pub record HostRun : Type 0 where
  pub name : List ℕ
  pub addr : ℕ
  pub log : List LogLine
  pub flows : List Flow

-- A whole run. `ticks` counts its ticks; it is stalled where a script has not ended after the last of them. In a replay
-- every record of the capture is counted once: as a frame, which is a segment that concerns the host, as passed over,
-- or as refused by a rule of reading.
pub record RunLog : Type 0 where
  pub replay : Bool
  pub hosts : List HostRun
  pub ticks : ℕ
  pub stalled : Bool
  pub records : ℕ
  pub frames : ℕ
  pub passed : ℕ
  pub refused : ℕ
