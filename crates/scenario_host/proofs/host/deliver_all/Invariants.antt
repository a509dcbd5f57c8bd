use Rattle.std.proofs.Common.{◌≡◌, map, fold, drop}
use Rattle.host_rounds.specs.Deliveries.{received_serially, delivered}
use Rattle.local_host.specs.Arriving.{arrival_in}
use Rattle.scenario_runs.specs.Worlds.{starts_of}
use Rattle.scenario_host.proofs.host.deliver_all.Given as goal

-- the frames that are left lead to the same end
abbrev pub invariant-loop-arrival : goal.invariant-loop-arrival
invariant-loop-arrival l =
    fold (delivered received_serially (starts_of l.starts.params) l.tick) l.host
    (map arrival_in (drop l.arrival-index l.arrivals))
    ≡ fold (delivered received_serially (starts_of l.starts.params) l.tick) l.fn.host (map arrival_in l.arrivals)
