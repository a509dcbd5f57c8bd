-- What is known of a flow's history once it was judged.
use Rattle.std.specs.Prelude.{◌≡◌, ℕ, List, [], ◌∷◌, length, Option, Some, None}
use Rattle.tas_model.specs.declared.entry.Entry.{Entry}
use Rattle.tas_model.specs.declared.entry.HostParams.{HostParams}
use Rattle.tas_model.specs.LegalHistory.{Legal, replay, last_tick, Opens}
use Rattle.tas_model.specs.Outputs.{bytes_read}
use Rattle.flow_state.specs.Flow.{Flow}
use Rattle.flow_state.specs.declared.counts.CallerCount.{CallerCount}
use Rattle.flow_state.specs.Counts.{AreCounts}

-- What a judge keeps: the host's parameters, a history that leads to the same endpoint, the tick of the last entry, how
-- many entries each caller made, and what was read.
pub record Judge : Type 0 where
  pub params : HostParams
  pub kept : List Entry
  pub last : ℕ
  pub counts : List CallerCount
  pub read : List ℕ

-- This history is legal, and the judge knows where it led.
pub record HasJudged (j : Judge) (h : List Entry) : Type 0 where
  pub legal : Legal j.params h
  pub state : replay j.params j.kept ≡ replay j.params h
  pub kept : last_tick 0 j.kept ≡ j.last
  pub count : length j.kept ≡ length h
  pub last : j.last ≡ last_tick 0 h
  pub counts : AreCounts j.counts h
  pub read : j.read ≡ bytes_read h

-- The record begins with an entry that opens as this one does.
pub record Begins (f : Flow) (params : HostParams) (x : Entry) : Type 0 where
  pub opens : Opens x.call
  pub same : f.params ≡ params
  pub first : Entry
  pub entries : f.entries ≡ first ∷ []
  pub call : first.call ≡ x.call
  pub tick : first.tick ≡ x.tick

-- Either it does, or the entry opens no flow.
abbrev pub IsOpened : Option Flow → HostParams → Entry → Type 0
IsOpened None params x = Opens x.call → ⊥
IsOpened (Some f) params x = Begins f params x
