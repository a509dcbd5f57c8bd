use Rattle.std.proofs.Common.{◌≡◌, drop}
use Rattle.scenario_runs.specs.Worlds.{kill_tick}
use Rattle.scenario_host.proofs.start.kill_tick.Given as goal

-- the lines that are left lead to the same
abbrev pub invariant-loop-kill : goal.invariant-loop-kill
invariant-loop-kill l = kill_tick (drop l.kill-index l.kills) l.app ≡ kill_tick l.kills l.app
