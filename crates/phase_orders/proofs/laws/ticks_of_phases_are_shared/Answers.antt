-- Answers of the proof of laws/ticks_of_phases_are_shared.
use Rattle.phase_orders.proofs.Ticks.{shared_tick}
use Rattle.phase_orders.proofs.laws.ticks_of_phases_are_shared.Goals as goal

pub returns : goal.returns
returns g c = shared_tick
