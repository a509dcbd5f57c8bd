use Rattle.worked_histories.proofs.WorkedShifts.{shift_of_15_legal, nothing_more_goes}
use Rattle.worked_histories.proofs.worked.worked_shifts.Goals as goal

pub returns-clause-shift_of_15 : goal.returns-clause-shift_of_15
returns-clause-shift_of_15 c = shift_of_15_legal

pub returns-clause-no_more_goes : goal.returns-clause-no_more_goes
returns-clause-no_more_goes c = nothing_more_goes
