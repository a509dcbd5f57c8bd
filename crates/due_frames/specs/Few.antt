-- Hosts whose flows can be told from no flow by their numbers.
use Rattle.std.specs.Prelude.{◌≤◌, List, length}
use Rattle.host_rounds.specs.Lists.{Each}
use Rattle.host_rounds.specs.Hosts.{Host}
use Rattle.host_rounds.specs.Scripts.{Site}
use Rattle.host_rounds.specs.Histories.{HasHistory}
use Rattle.scenario_runs.specs.Applications.{Script}
use Rattle.scenario_runs.specs.Worlds.{World, no_flow}

-- The names of frames have the number of their flow, from 0 on, and 2^32 - 1 for frames of no flow. A host opens so
-- many flows at most (`most_flows`), so that none has that number.
pub record HasFewFlows (host : Host) : Type 0 where
  pub few : length host.flows ≤ no_flow

-- so it is with each host of a world
abbrev pub AreFew : World → Type 0
AreFew world = Each (λ (site : Site (List Script)). HasFewFlows site.host) world

-- each flow of each host has a history of the endpoint
abbrev pub HaveHistories : World → Type 0
HaveHistories world = Each (λ (site : Site (List Script)). Each HasHistory site.host.flows) world
