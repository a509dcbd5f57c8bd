use Rattle.std.proofs.Common.{◌≡◌, map, take, length}
use Rattle.local_host.specs.Arriving.{arrival_in}
use Rattle.local_host.specs.Handing.{TookSome}
use Rattle.local_host.proofs.cores.take_in_turn.Given as goal

abbrev pub invariant-loop-k : goal.invariant-loop-k
invariant-loop-k l =
    TookSome l.tick l.fn.flows (take l.k l.steered) (map arrival_in (take l.k l.arrivals))
    (map arrival_in l.rest.items) l.flows × (length l.flows ≡ length l.fn.flows)
