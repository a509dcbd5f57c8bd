use Rattle.std.proofs.Common.{[]}
use Rattle.local_host.specs.Handing.{AreLanes}
use Rattle.local_host.proofs.jobs.lanes_of.Given as goal

abbrev pub invariant-loop-job : goal.invariant-loop-job
invariant-loop-job l = AreLanes l.yielded [] [] l.lanes.items
