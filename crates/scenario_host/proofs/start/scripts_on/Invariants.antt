use Rattle.std.proofs.Common.{◌≡◌, ◌++◌, drop}
use Rattle.scenario_runs.specs.Worlds.{scripts_on}
use Rattle.scenario_host.proofs.start.scripts_on.Given as goal

-- those that were made, and those of the lines that are left, are all
abbrev pub invariant-loop-app : goal.invariant-loop-app
invariant-loop-app l = record {
  count : l.number ≡ l.app-index;
  made : l.scripts.items ++ scripts_on l.s.kills l.host l.number (drop l.app-index l.s.apps)
      ≡ scripts_on l.s.kills l.host 0 l.s.apps;
}
