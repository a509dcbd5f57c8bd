-- Which texts are scenarios: the first line that is refused, and its kind, or the scenario.
use Rattle.std.specs.Prelude.{ℕ, ◌+◌, List, [], ◌∷◌, Option, Some, None, Result, Ok, Err, unwrap_or}
use Rattle.std.specs.Str.Lines.{lines}
use Rattle.scenario_text.specs.Statements.{reading}
use Rattle.scenario_text.specs.declared.draft.Draft.{Draft}
use Rattle.scenario_text.specs.Drafts.{no_draft, judged, with_line}
use Rattle.scenario_text.specs.declared.scenario.HostLine.{HostLine}
use Rattle.scenario_text.specs.declared.scenario.Scenario.{Scenario}
use Rattle.scenario_text.specs.declared.statement.Statement.{Statement}
use Rattle.scenario_text.specs.declared.statement.Reading.{Reading}
use Rattle.scenario_text.specs.declared.statement.Reading.TheVariants.{Nothing, Wrong, Says}
use Rattle.scenario_text.specs.declared.reading.ScenarioFault.{ScenarioFault}
use Rattle.scenario_text.specs.declared.reading.ScenarioFault.TheVariants.{Refused}

-- ----- one line
abbrev pub taken_if : Draft → Statement → Option ℕ → Result Draft ℕ
taken_if d statement None = Ok (with_line d statement)
taken_if d statement (Some kind) = Err kind

abbrev pub taken_by : Draft → Reading → Result Draft ℕ
taken_by d Nothing = Ok d
taken_by d (Wrong kind) = Err kind
taken_by d (Says statement) = taken_if d statement (judged d statement)

-- what is read with one line more, or the kind of its refusal
abbrev pub taken : Draft → (line : List ℕ) → Result Draft ℕ
taken d line = taken_by d (reading line)

-- ----- all lines
abbrev pub scenario_in : Draft → Scenario
scenario_in d = record {
  limit = unwrap_or d.limit 1000;
  hosts = d.hosts;
  apps = d.apps;
  link = d.link;
  moves = d.moves;
  kills = d.kills;
}

-- a scenario has a host; where there is none, the line after the last is refused, by kind 9
abbrev pub finished : (line : ℕ) → Draft → List HostLine → Result Scenario ScenarioFault
finished line d [] = Err (Refused line 9)
finished line d (host ∷ hosts) = Ok (scenario_in d)

-- the lines from one of this number on
abbrev pub read_from : (line : ℕ) → Draft → List (List ℕ) → Result Scenario ScenarioFault
read_from line d [] = finished line d d.hosts
read_from line d (text ∷ texts) =
    elim (taken d text) [ Ok next ↦ read_from (line + 1) next texts | Err kind ↦ Err (Refused line kind) ]

-- The scenario that a text is, or its first refused line, counted from 1, and the kind of the refusal.
unfoldable pub reads : (text : List ℕ) → Result Scenario ScenarioFault
reads text = read_from 1 no_draft (lines text)
