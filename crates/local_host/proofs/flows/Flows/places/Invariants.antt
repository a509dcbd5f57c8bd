use Rattle.std.proofs.Common.{◌≡◌, map, take}
use Rattle.local_host.specs.declared.arrival.Arrival.{Arrival}
use Rattle.local_host.specs.Arriving.{arrival_in}
use Rattle.local_host.specs.Handing.{place_in}
use Rattle.local_host.proofs.flows.Flows.places.Given as goal

abbrev pub invariant-loop-arrival : goal.invariant-loop-arrival
invariant-loop-arrival l =
    l.places.items ≡ map (λ (x : Arrival). place_in l.self (arrival_in x).packet) (take l.arrival-index l.arrivals)
