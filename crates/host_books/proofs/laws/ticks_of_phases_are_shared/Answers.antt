-- Answers of the proof of laws/ticks_of_phases_are_shared.
use Rattle.host_books.proofs.Ticks.{tick_of_phases}
use Rattle.host_books.proofs.laws.ticks_of_phases_are_shared.Goals as goal

pub returns : goal.returns
returns g c scripts cores t = tick_of_phases scripts t cores
