-- Answers of the proof of laws/ticks_of_steps_are_shared.
use Rattle.phase_orders.proofs.Ticks.{shared_tick}
use Rattle.core_host.proofs.Ticks.{tick_of_lanes, between_ticks, cores_stay}
use Rattle.core_host.specs.Ticks.{site_in}
use Rattle.core_host.proofs.laws.ticks_of_steps_are_shared.Goals as goal

pub returns-clause-lanes : goal.returns-clause-lanes
returns-clause-lanes g c = tick_of_lanes

pub returns-clause-shared : goal.returns-clause-shared
returns-clause-shared g c = λ scripts t due before after state next between k.
    shared_tick scripts before.host.slow.check_sums before.cores t due (site_in before state) (site_in after next)
    (tick_of_lanes scripts t due before after state next between k)

pub returns-clause-between : goal.returns-clause-between
returns-clause-between g c = between_ticks

pub returns-clause-cores : goal.returns-clause-cores
returns-clause-cores g c = cores_stay
