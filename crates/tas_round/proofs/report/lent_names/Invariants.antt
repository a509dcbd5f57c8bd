use Rattle.std.proofs.Common.{◌≡◌, take, map}
use Rattle.tas_runs.specs.Report.{names_of}
use Rattle.tas_round.specs.Runs.{host_in}
use Rattle.tas_round.proofs.report.lent_names.Given as goal

abbrev pub invariant-loop-i : goal.invariant-loop-i
invariant-loop-i l = map (λ n. n.now) l.names.items ≡ names_of (map host_in (take l.i l.hosts))
