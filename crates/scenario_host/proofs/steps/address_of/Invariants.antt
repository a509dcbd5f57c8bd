use Rattle.std.proofs.Common.{◌≡◌, drop}
use Rattle.scenario_runs.specs.Worlds.{address_in}
use Rattle.scenario_host.proofs.steps.address_of.Given as goal

-- the hosts that are left lead to the same
abbrev pub invariant-loop-host : goal.invariant-loop-host
invariant-loop-host l = address_in (drop l.host-index l.hosts) l.name ≡ address_in l.hosts l.name
