use Rattle.std.proofs.Common.{◌≡◌, map, drop}
use Rattle.scenario_runs.specs.Applications.{bound_in}
use Rattle.scenario_host.specs.Scripts.{named}
use Rattle.scenario_host.proofs.script.bound_in.Given as goal

-- the names that are left lead to the same
abbrev pub invariant-loop-n : goal.invariant-loop-n
invariant-loop-n l = bound_in (map named (drop l.n-index l.names)) l.name ≡ bound_in (map named l.names) l.name
