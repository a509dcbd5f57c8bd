use Rattle.std.proofs.Common.{◌≡◌, length, map}
use Rattle.scenario_world.specs.Ends.{host_runs}
use Rattle.tas_round.specs.Runs.{host_in}
use Rattle.tas_round.proofs.running.host_runs.Given as goal

abbrev pub invariant-loop-end : goal.invariant-loop-end
invariant-loop-end l = record {
  runs : map host_in l.runs.items ≡ host_runs l.lines l.yielded;
  count : length l.runs.items ≡ length l.yielded;
}
