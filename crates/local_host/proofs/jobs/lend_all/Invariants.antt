use Rattle.std.proofs.Common.{[], List}
use Rattle.local_host.specs.declared.lanes.Handed.{Handed}
use Rattle.local_host.specs.declared.lanes.Job.{Job}
use Rattle.local_host.specs.Handing.{AreLanes, IsLendingOut}
use Rattle.local_host.proofs.jobs.lend_all.Given as goal

abbrev pub invariant-loop-attempt : goal.invariant-loop-attempt
invariant-loop-attempt l =
    (jobs : List Job) (strays : List Handed) → AreLanes jobs strays [] l.fn.lanes.items
    → IsLendingOut l.fn.flows.items l.flows.items l.yielded jobs strays l.lanes.items
