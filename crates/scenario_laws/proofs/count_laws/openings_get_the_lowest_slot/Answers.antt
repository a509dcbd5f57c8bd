use Rattle.scenario_laws.proofs.LowestSlots.{round_lowest, ticks_lowest}
use Rattle.scenario_laws.proofs.count_laws.openings_get_the_lowest_slot.Goals as goal

pub returns-clause-every : goal.returns-clause-every
returns-clause-every g c = round_lowest

pub returns-clause-ticks : goal.returns-clause-ticks
returns-clause-ticks g c = ticks_lowest
