-- What holds of the flows of a run of a scenario.
use Rattle.std.specs.Prelude.{ℕ, List}
use Rattle.tas_model.specs.Valid.{InRange}
use Rattle.host_rounds.specs.Lists.{Each}
use Rattle.host_rounds.specs.Logs.{HostRun}
use Rattle.host_rounds.specs.Histories.{IsSound}
use Rattle.host_rounds.specs.Scripts.{Site}
use Rattle.host_rounds.specs.Cores.{AllBelow}
use Rattle.scenario_text.specs.declared.scenario.HostLine.{HostLine}
use Rattle.scenario_runs.specs.Applications.{Script}
use Rattle.scenario_runs.specs.Worlds.{World}

-- each host's parameters are in their ranges
abbrev pub AreInRange : List HostLine → Type 0
AreInRange hosts = Each (λ (h : HostLine). InRange h.params) hosts

-- each flow of each host is sound
abbrev pub AreSound : List HostRun → Type 0
AreSound hosts = Each (λ (h : HostRun). Each IsSound h.flows) hosts

-- each entry of each host that a core made was made by one of so many
abbrev pub AreBelow : (cores : ℕ) → World → Type 0
AreBelow cores world = Each (λ (site : Site (List Script)). AllBelow cores site.host) world
