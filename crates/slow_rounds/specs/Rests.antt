-- The frames that wait at the slow path, in the words of a run.
use Rattle.std.specs.Prelude.{List, map, None}
use Rattle.host_rounds.specs.Deliveries.{Arrival}
use Rattle.host_rounds.specs.Hosts.{Starts}
use Rattle.slow_handshake.specs.Numbers.{FirstNumbers}
use Rattle.slow_worker.specs.Workers.{Worker, waiting}
use Rattle.phase_orders.specs.CoreTurns.{arrivals_of, frame_in}

-- what flows are given at their opening, where first numbers go by the number of flows that the host opened alone, and
-- no flow has a scale of its own
abbrev pub starts_by : FirstNumbers → Starts
starts_by ns tuple k n = record { number = ns tuple n; scale = None }

-- the frames that wait, as they came to the host: the exceptions, and then the deferred ones
abbrev pub rest_of : Worker → List Arrival
rest_of w = arrivals_of w.check_sums (map frame_in (waiting w))
