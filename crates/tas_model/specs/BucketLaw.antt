-- What the bucket lets through: the bytes that are sent as data in a stretch of a history, and what its ticks filled
-- in.
use Rattle.std.specs.Prelude.{ℕ, ◌+◌, List, [], ◌∷◌}
use Rattle.tas_model.specs.declared.entry.Entry.{Entry}
use Rattle.tas_model.specs.declared.entry.Call.{Call}
use Rattle.tas_model.specs.declared.entry.Call.TheVariants as calls
use Rattle.tas_model.specs.Endpoint.{Endpoint}
use Rattle.tas_model.specs.ApplicationCalls.{Column, Opening, Over, Running, column}
use Rattle.tas_model.specs.NextSegment.{data_len}
use Rattle.tas_model.specs.LegalHistory.{moved}

-- the bytes that rule 2 of the next segment sends: none where it does not apply
abbrev pub data_in : Column → Endpoint → ℕ
data_in Opening e = 0
data_in (Over why) e = 0
data_in Running e = data_len e

-- the same of a call: only Emit sends them
abbrev pub data_by : Endpoint → Call → ℕ
data_by e calls.Emit = data_in (column e) e
data_by e _ = 0

-- what a call fills in: only Tick does
abbrev pub fill_by : Endpoint → Call → ℕ
fill_by e calls.Tick = e.rate.fill
fill_by e _ = 0

-- Data sent in a stretch that begins at this endpoint, in bytes.
abbrev pub data_sent : Endpoint → (stretch : List Entry) → ℕ
data_sent e [] = 0
data_sent e (x ∷ xs) = data_by e x.call + data_sent (moved e x) xs

-- The fills of its ticks, in bytes.
abbrev pub fills : Endpoint → (stretch : List Entry) → ℕ
fills e [] = 0
fills e (x ∷ xs) = fill_by e x.call + fills (moved e x) xs
