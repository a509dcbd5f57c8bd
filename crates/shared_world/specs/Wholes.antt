-- A whole run on shared flows, and what it leaves.
use Rattle.std.specs.Prelude.{◌≡◌, ℕ, ◌<◌, ◌≤◌, length}
use Rattle.host_rounds.specs.Cores.{CoresBelow}
use Rattle.host_rounds.specs.Lists.{Each}
use Rattle.local_host.specs.Live.{IsLegal}
use Rattle.local_host.specs.declared.host.HostEnd.{HostEnd}
use Rattle.scenario_ranges.specs.Ranges.{IsInRange}
use Rattle.scenario_runs.specs.Runs.{Run, RunsFrom}
use Rattle.scenario_runs.specs.Worlds.{at_start}
use Rattle.scenario_runs.specs.Histories.{AreBelow}
use Rattle.scenario_text.specs.declared.scenario.Scenario.{Scenario}
use Rattle.scenario_world.specs.Ends.{log_of}
use Rattle.scenario_world.specs.declared.world.WorldEnd.{WorldEnd}
use Rattle.shared_world.specs.Sites.{IsReady, world_of}
use Rattle.shared_world.specs.declared.run.Rest.{Rest}
use Rattle.shared_world.specs.declared.run.WholeRun.{WholeRun}
use Rattle.shared_world.specs.declared.world.SharedWorld.{SharedWorld}

-- The run may be made: the scenario is in its ranges, and a host has 1 to 16 cores.
abbrev pub CanRun : WholeRun → Type 0
CanRun w = IsInRange w.s.now × (0 < w.cores) × (w.cores ≤ 16)

-- What a run of the scenario on hosts with so many cores each leaves.
pub record IsRun (s : Scenario) (cores : ℕ) (end : WorldEnd) : Type 0 where
  pub run : Run s (log_of s end)
  pub below : CoresBelow cores (log_of s end).hosts
  pub hosts : length end.hosts.items ≡ length s.hosts
  pub legal : Each (λ (e : HostEnd). Each IsLegal e.flows.items) end.hosts.items

-- The world in which a run ended so, which may be made an end of.
pub record IsOver (s : Scenario) (cores : ℕ) (rest : Rest) (w : SharedWorld) : Type 0 where
  pub tick : ℕ
  pub ready : IsReady s tick cores w
  pub run : RunsFrom s s.limit 0 (at_start s)
      (record { world = world_of w; ticks = rest.ticks; stalled = rest.stalled })
  pub below : AreBelow cores (world_of w)
