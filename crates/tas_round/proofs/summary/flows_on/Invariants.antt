use Rattle.std.proofs.Common.{◌≡◌, drop, map}
use Rattle.tas_runs.specs.Summary.{flows_on}
use Rattle.tas_round.specs.Runs.{host_in}
use Rattle.tas_round.proofs.summary.flows_on.Given as goal

abbrev pub invariant-loop-i : goal.invariant-loop-i
invariant-loop-i l = flows_on l.name (map host_in (drop l.i l.hosts)) ≡ flows_on l.name (map host_in l.hosts)
