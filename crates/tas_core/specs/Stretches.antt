-- The lines that the stretches of a log mean: a stretch is one line, or a run of lines of frames that follow on each
-- other.
use Rattle.std.specs.Prelude.{◌≡◌, ℕ, zero, suc, ◌+◌, ◌-◌, ◌≤◌, List, [], ◌∷◌, ◌++◌, drop, flat_map, ⊤}
use Rattle.tas_model.specs.declared.entry.FrameId.{FrameId}
use Rattle.host_rounds.specs.Lists.{Each}
use Rattle.host_rounds.specs.declared.log.LogLine.{LogLine}
use Rattle.host_rounds.specs.declared.log.LogEvent.{LogEvent}
use Rattle.host_rounds.specs.declared.log.LogEvent.TheVariants as events
use Rattle.tas_core.specs.declared.stretch.RunKind.{RunKind}
use Rattle.tas_core.specs.declared.stretch.RunKind.TheVariants.{Dropped, Refused}
use Rattle.tas_core.specs.declared.stretch.LogRun.{LogRun}
use Rattle.tas_core.specs.declared.stretch.LogStretch.{LogStretch}
use Rattle.tas_core.specs.declared.stretch.LogStretch.TheVariants.{One, Run}

-- ----- lines
-- what a line of this kind tells of a frame
abbrev pub event_by : RunKind → FrameId → LogEvent
event_by (Dropped backlog) frame = events.Dropped frame backlog
event_by (Refused number) frame = events.Refused frame number

abbrev pub line_by : (tick : ℕ) → RunKind → FrameId → LogLine
line_by tick kind frame = record { tick = tick; event = event_by kind frame }

-- the line of a run whose frame has this number
abbrev pub numbered_line : LogRun → (number : ℕ) → LogLine
numbered_line r number = line_by r.tick r.kind (record (r.first) { number = number })

-- so many, from the one whose frame has this number on
abbrev pub numbered_lines : LogRun → (number count : ℕ) → List LogLine
numbered_lines r number zero = []
numbered_lines r number (suc n) = numbered_line r number ∷ numbered_lines r (number + 1) n

-- those of a run: the first, and the others up to the last
abbrev pub run_lines : LogRun → List LogLine
run_lines r = numbered_lines r r.first.number (suc (r.last - r.first.number))

-- those of a stretch
abbrev pub lines_in : LogStretch → List LogLine
lines_in (One line) = line ∷ []
lines_in (Run run) = run_lines run

-- the whole log
abbrev pub lines_of : List LogStretch → List LogLine
lines_of stretches = flat_map lines_in stretches

-- ----- one line more
-- a line of this tick and kind with this frame is the next one of the run
pub record ComesNext (r : LogRun) (tick : ℕ) (kind : RunKind) (frame : FrameId) : Type 0 where
  pub same_tick : r.tick ≡ tick
  pub same_kind : r.kind ≡ kind
  pub next_frame : frame ≡ record (r.first) { number = r.last + 1 }
  pub whole : r.first.number ≤ r.last

-- ----- the newest lines
-- such lines alone stand in runs
abbrev pub IsOfRun : LogEvent → Type 0
IsOfRun (events.Dropped frame backlog) = ⊤
IsOfRun (events.Refused frame number) = ⊤
IsOfRun _ = ⊥

-- Behind the first so many lines of a log there are those of these stretches. Before them nothing but the end of a run
-- may stand, which begins among the first lines.
pub record ComeAfter (lines : ℕ) (log : List LogLine) (stretches : List LogStretch) : Type 0 where
  pub passed : List LogLine
  pub all : drop lines log ≡ passed ++ lines_of stretches
  pub of_run : Each (λ (l : LogLine). IsOfRun l.event) passed
