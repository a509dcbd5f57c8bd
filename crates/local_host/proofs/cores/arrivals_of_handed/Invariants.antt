use Rattle.std.proofs.Common.{◌≡◌, map, take}
use Rattle.local_host.specs.declared.lanes.Handed.{Handed}
use Rattle.local_host.proofs.cores.arrivals_of_handed.Given as goal

abbrev pub invariant-loop-handed : goal.invariant-loop-handed
invariant-loop-handed l = l.rest.items ≡ map (λ (h : Handed). h.arrival) (take l.handed-index l.left)
