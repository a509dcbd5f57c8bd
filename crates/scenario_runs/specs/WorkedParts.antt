-- How worked runs are written down: the text of a scenario, and what the program writes for it.
use Rattle.std.specs.Prelude.{ℕ, List, [], Result, Ok, Err}
use Rattle.tas_runs.specs.Report.{report}
use Rattle.scenario_text.specs.declared.scenario.Scenario.{Scenario}
use Rattle.scenario_text.specs.declared.reading.ScenarioFault.{ScenarioFault}
use Rattle.scenario_text.specs.Reads.{reads}
use Rattle.scenario_runs.specs.Runs.{serial_run}

abbrev pub report_of : Result Scenario ScenarioFault → List ℕ
report_of (Err fault) = []
report_of (Ok s) = report (serial_run s)

-- the report of the run in serial order; nothing where the text is no scenario
abbrev pub reported : (text : List ℕ) → List ℕ
reported text = report_of (reads text)
