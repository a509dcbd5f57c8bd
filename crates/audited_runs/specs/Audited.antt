-- The text that an auditor is given of a run.
use Rattle.std.specs.Prelude.{◌≡◌, ℕ, List, ◌++◌, codes}
use Rattle.host_rounds.specs.Logs.{RunLog}
use Rattle.tas_runs.specs.Report.{report}
use Rattle.scenario_text.specs.Canonical.{canonical}
use Rattle.scenario_text.specs.declared.scenario.Scenario.{Scenario}
use Rattle.trace_audit.specs.TextLines.{mark}

-- The scenario's canonical text, the line `==`, and the report.
abbrev pub audited : Scenario → RunLog → List ℕ
audited s log = canonical s ++ mark ++ report log

-- The same with the text that the scenario was read from.
abbrev pub audited_text : (scenario : List ℕ) → RunLog → List ℕ
audited_text text log = text ++ mark ++ report log

-- the last line of a text ends
abbrev pub EndsInLine : (text : List ℕ) → Type 0
EndsInLine text = (front : List ℕ) × (text ≡ front ++ codes "\n")
