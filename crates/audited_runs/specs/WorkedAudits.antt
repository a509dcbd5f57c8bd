-- How many flows and entries the reports of worked runs have, and entries of worked lines.
use Rattle.std.specs.Prelude.{ℕ, List, Result, Ok, Err}
use Rattle.tas_model.specs.declared.entry.Call.TheVariants as calls
use Rattle.tas_model.specs.declared.entry.Caller.TheVariants.{Core}
use Rattle.tas_model.specs.declared.entry.Entry.{Entry}
use Rattle.tas_model.specs.declared.entry.Reply.TheVariants as replies
use Rattle.scenario_text.specs.Reads.{reads}
use Rattle.scenario_text.specs.declared.reading.ScenarioFault.{ScenarioFault}
use Rattle.scenario_text.specs.declared.scenario.Scenario.{Scenario}
use Rattle.scenario_runs.specs.Runs.{serial_run}
use Rattle.audited_runs.specs.LogLines.{flows_in, entries_in}

abbrev pub counts_of : Result Scenario ScenarioFault → ℕ × ℕ
counts_of (Err fault) = (0, 0)
counts_of (Ok s) = (flows_in (serial_run s).hosts, entries_in (serial_run s).hosts)

-- those of the run of this text in serial order
abbrev pub audited_counts : (text : List ℕ) → ℕ × ℕ
audited_counts text = counts_of (reads text)

-- a core finds nothing due in tick 0
abbrev pub ticked_by : (core : ℕ) → Entry
ticked_by k = record { caller = Core k; number = 0; tick = 0; call = calls.Tick; reply = replies.Quiet }
