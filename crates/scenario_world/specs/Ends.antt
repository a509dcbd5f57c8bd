-- What a run of a scenario left, as the definitions of runs have it.
use Rattle.std.specs.Prelude.{◌≡◌, false, List, [], ◌∷◌, map, ⊤}
use Rattle.host_rounds.specs.Logs.{HostRun, RunLog}
use Rattle.host_rounds.specs.Hosts.{Host, flows_of}
use Rattle.scenario_text.specs.declared.scenario.Scenario.{Scenario}
use Rattle.scenario_text.specs.declared.scenario.HostLine.{HostLine}
use Rattle.scenario_runs.specs.Worlds.{World}
use Rattle.local_host.specs.declared.host.HostEnd.{HostEnd}
use Rattle.local_host.specs.Live.{flow_left}
use Rattle.scenario_world.specs.declared.world.WorldEnd.{WorldEnd}

abbrev pub host_run : HostLine → HostEnd → HostRun
host_run h end = record { name = h.name; addr = h.params.addr; log = end.log; flows = map flow_left end.flows.items }

-- host by host
abbrev pub host_runs : List HostLine → List HostEnd → List HostRun
host_runs [] ends = []
host_runs (h ∷ hs) [] = []
host_runs (h ∷ hs) (end ∷ ends) = host_run h end ∷ host_runs hs ends

-- The log of the scenario's run that left this.
abbrev pub log_of : Scenario → WorldEnd → RunLog
log_of s end =
    record {
      replay = false;
      hosts = host_runs s.hosts end.hosts.items;
      ticks = end.ticks;
      stalled = end.stalled;
      records = 0;
      frames = 0;
      passed = 0;
      refused = 0;
    }

-- ----- host by host
-- this is what the host left
pub record IsEnd (host : Host) (end : HostEnd) : Type 0 where
  pub log : end.log ≡ host.log
  pub flows : map flow_left end.flows.items ≡ flows_of host.flows

abbrev pub AreEnds : World → List HostEnd → Type 0
AreEnds [] [] = ⊤
AreEnds [] (end ∷ ends) = ⊥
AreEnds (site ∷ sites) [] = ⊥
AreEnds (site ∷ sites) (end ∷ ends) = IsEnd site.host end × AreEnds sites ends
