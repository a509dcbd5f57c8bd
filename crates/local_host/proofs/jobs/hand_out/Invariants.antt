use Rattle.std.proofs.Common.{map, take}
use Rattle.local_host.specs.Arriving.{arrival_in}
use Rattle.local_host.specs.Handing.{AreHanded}
use Rattle.local_host.proofs.jobs.hand_out.Given as goal

abbrev pub invariant-loop-k : goal.invariant-loop-k
invariant-loop-k l =
    AreHanded l.fn.flows.items l.flows.items l.handing.jobs.items l.handing.left.items
    (take l.k l.steered) (map arrival_in (take l.k l.arrivals))
