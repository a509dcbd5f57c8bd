-- What a host sends in a tick, and what it keeps to number its frames.
use Rattle.std.specs.Prelude.{ℕ, ◌≤◌, ◌<◌, ◌==◌, Bool, List, length, map, filter, nat_lt, is_some}
use Rattle.tas_model.specs.declared.entry.Seg.{Seg}
use Rattle.tas_model.specs.declared.entry.Entry.{Entry}
use Rattle.tas_model.specs.Outputs as outputs
use Rattle.link_script.specs.declared.frames.Sent.{Sent}
use Rattle.host_rounds.specs.declared.log.LogLine.{LogLine}
use Rattle.host_rounds.specs.Lists.{Each}
use Rattle.host_rounds.specs.Scripts.{Site}
use Rattle.scenario_runs.specs.Applications.{Script}
use Rattle.scenario_runs.specs.Worlds.{World, frames_of_segments, frames_of_entries, answer_on}
use Rattle.sent_frames.specs.declared.frames.Origin.{Origin}

-- ----- a world
-- the addresses of its hosts
abbrev pub addresses_of : World → List ℕ
addresses_of world = map (λ (site : Site (List Script)). site.host.params.addr) world

-- ----- frames
-- those of a tick
abbrev pub of_tick : (tick : ℕ) → List Sent → List Sent
of_tick t frames = filter (λ (f : Sent). f.tick == t) frames

-- none was sent behind the tick
abbrev pub AreUpTo : (tick : ℕ) → List Sent → Type 0
AreUpTo t frames = Each (λ (f : Sent). f.tick ≤ t) frames

-- the frames of these segments, which were sent from there in a tick, and those of these entries; the first has this
-- number
abbrev pub segment_frames : Origin → (number tick : ℕ) → List Seg → List Sent
segment_frames o n t segs = frames_of_segments o.host o.flow n t o.to o.tuple segs

abbrev pub entry_frames : Origin → (number : ℕ) → List Entry → List Sent
entry_frames o n xs = frames_of_entries o.host o.flow n o.to o.tuple xs

-- ----- how many were sent
-- by a flow with this history
abbrev pub sent_by : List Entry → ℕ
sent_by h = length (outputs.sent h)

-- and before a tick
abbrev pub sent_before : (tick : ℕ) → List Entry → ℕ
sent_before t h = sent_by (filter (λ (x : Entry). nat_lt x.tick t) h)

-- the line shows an answer to a segment of no flow
abbrev pub is_answered : LogLine → Bool
is_answered l = is_some (answer_on l.event)

abbrev pub answers_in : List LogLine → ℕ
answers_in log = length (filter is_answered log)

-- ----- earlier ticks
-- each entry is of one, and each line
abbrev pub EntriesBefore : (tick : ℕ) → List Entry → Type 0
EntriesBefore t h = Each (λ (x : Entry). x.tick < t) h

abbrev pub LinesBefore : (tick : ℕ) → List LogLine → Type 0
LinesBefore t log = Each (λ (l : LogLine). l.tick < t) log
