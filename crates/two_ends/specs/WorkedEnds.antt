-- How many other ends the flows of worked runs have.
use Rattle.std.specs.Prelude.{ℕ, List, [], length, map, Result, Ok, Err}
use Rattle.host_rounds.specs.Logs.{Flow, HostRun}
use Rattle.scenario_text.specs.declared.reading.ScenarioFault.{ScenarioFault}
use Rattle.scenario_text.specs.declared.scenario.Scenario.{Scenario}
use Rattle.scenario_text.specs.Reads.{reads}
use Rattle.scenario_runs.specs.Runs.{serial_run}
use Rattle.two_ends.specs.Ends.{flows_in, other_ends}

abbrev pub counts_in : List HostRun → List ℕ
counts_in hosts = map (λ (f : Flow). length (other_ends f hosts)) (flows_in hosts)

abbrev pub counts_of : Result Scenario ScenarioFault → List ℕ
counts_of (Err fault) = []
counts_of (Ok s) = counts_in (serial_run s).hosts

-- Of each flow of the serial run of this text, host by host and by opening, how many flows have its four-tuple
-- reversed.
abbrev pub other_end_counts : (text : List ℕ) → List ℕ
other_end_counts text = counts_of (reads text)
