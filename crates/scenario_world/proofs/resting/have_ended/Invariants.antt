use Rattle.std.proofs.Common.{◌≡◌, drop}
use Rattle.scenario_runs.specs.Worlds.{all_ended}
use Rattle.scenario_world.proofs.resting.have_ended.Given as goal

-- the hosts that are left lead to the same
abbrev pub invariant-loop-host : goal.invariant-loop-host
invariant-loop-host l = all_ended (drop l.host-index l.hosts) ≡ all_ended l.hosts
