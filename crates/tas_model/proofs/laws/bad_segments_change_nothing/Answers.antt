use Rattle.tas_model.proofs.BadSegments.{dropped_changes_nothing, closed_changes_nothing, negative_dropped}
use Rattle.tas_model.proofs.BadSegments.{unacceptable_dropped, reset_elsewhere_dropped, syn_dropped, no_ack_dropped}
use Rattle.tas_model.proofs.laws.bad_segments_change_nothing.Goals as goal

pub returns-clause-dropped : goal.returns-clause-dropped
returns-clause-dropped c = dropped_changes_nothing

pub returns-clause-negative : goal.returns-clause-negative
returns-clause-negative c = negative_dropped

pub returns-clause-unacceptable : goal.returns-clause-unacceptable
returns-clause-unacceptable c = unacceptable_dropped

pub returns-clause-reset_elsewhere : goal.returns-clause-reset_elsewhere
returns-clause-reset_elsewhere c = reset_elsewhere_dropped

pub returns-clause-syn : goal.returns-clause-syn
returns-clause-syn c = syn_dropped

pub returns-clause-no_ack : goal.returns-clause-no_ack
returns-clause-no_ack c = no_ack_dropped

pub returns-clause-closed : goal.returns-clause-closed
returns-clause-closed c = closed_changes_nothing
