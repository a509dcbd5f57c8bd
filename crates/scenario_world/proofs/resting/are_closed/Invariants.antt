use Rattle.std.proofs.Common.{◌≡◌, drop}
use Rattle.scenario_runs.specs.Worlds.{all_closed}
use Rattle.scenario_world.proofs.resting.are_closed.Given as goal

-- the hosts that are left lead to the same
abbrev pub invariant-loop-host : goal.invariant-loop-host
invariant-loop-host l = all_closed (drop l.host-index l.hosts) ≡ all_closed l.hosts
