use Rattle.std.proofs.Common.{[], List, take}
use Rattle.local_host.specs.declared.lanes.Job.{Job}
use Rattle.local_host.specs.Handing.{AreLanes}
use Rattle.local_host.proofs.jobs.give_strays.Given as goal

abbrev pub invariant-loop-handed : goal.invariant-loop-handed
invariant-loop-handed l =
    (jobs : List Job) → AreLanes jobs [] [] l.fn.lanes.items
    → AreLanes jobs (take l.handed-index l.strays) [] l.lanes.items
