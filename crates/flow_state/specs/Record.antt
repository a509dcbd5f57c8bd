-- What a record keeps true of its parts, its memory, its slots, its counts and its application.
use Rattle.std.specs.Prelude.{◌≡◌, ℕ, ◌+◌, ◌*◌, ◌^◌, ◌<◌, ◌≤◌, List, length, Option}
use Rattle.tas_model.specs.LegalHistory.{Legal, replay, last_tick}
use Rattle.tas_model.specs.Outputs.{sent}
use Rattle.tas_model.specs.Valid.{InRange}
use Rattle.flow_state.specs.declared.parts.Parts.{Parts}
use Rattle.flow_state.specs.declared.stretch.Stretch.{Stretch}
use Rattle.flow_state.specs.declared.counts.CallerCount.{CallerCount}
use Rattle.flow_state.specs.Arena.{Memory}
use Rattle.flow_state.specs.Stretches.{AllStand, entries_of}
use Rattle.flow_state.specs.Counts.{AreCounts}
use Rattle.flow_state.specs.Application.{application_of}
use Rattle.flow_state.specs.Stands.{Stands}

-- The parts stand for the endpoint that the entries lead to, and these are a legal history. Their number is kept, and
-- the tick of the last; runs have no more of them than two for each tick that passed. The segments that they sent are
-- counted.
pub record IsRecord (parts : Parts) (memory : Memory) (stretches : List Stretch) (table : List CallerCount)
    (app : Option ℕ) (n t segments : ℕ) : Type 0 where
  pub fits : InRange parts.params
  pub legal : Legal parts.params (entries_of memory stretches)
  pub stands : Stands parts (replay parts.params (entries_of memory stretches))
  pub within : AllStand memory stretches
  pub counts : AreCounts table (entries_of memory stretches)
  pub application : app ≡ application_of (entries_of memory stretches)
  pub made : n ≡ length (entries_of memory stretches)
  pub last : t ≡ last_tick 0 (entries_of memory stretches)
  pub few : n ≤ length stretches + 2 * t
  pub low : t < 2 ^ 32
  pub sent : segments ≡ length (sent (entries_of memory stretches))
  pub several : segments ≤ n  -- an entry has one at most
