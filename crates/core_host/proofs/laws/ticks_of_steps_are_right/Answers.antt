-- Answers of the proof of laws/ticks_of_steps_are_right.
use Rattle.core_rounds.proofs.SharedRounds.{shared_round}
use Rattle.phase_orders.proofs.Ticks.{shared_tick}
use Rattle.core_host.proofs.Ticks.{tick_of_lanes}
use Rattle.core_host.specs.Ticks.{site_in}
use Rattle.core_host.proofs.laws.ticks_of_steps_are_right.Goals as goal

pub returns : goal.returns
returns g c = λ scripts t due before after state next moves histories between k.
    shared_round scripts before.cores t due (site_in before state) (site_in after next) moves histories
    (shared_tick scripts before.host.slow.check_sums before.cores t due (site_in before state) (site_in after next)
    (tick_of_lanes scripts t due before after state next between k))
