use Rattle.tas_model.proofs.EdgeLaw.{edge_stays, offers_in_order, shown_is_within, shown_stays}
use Rattle.tas_model.proofs.scaling_laws.window_is_never_taken_back.Goals as goal

pub returns-clause-edge : goal.returns-clause-edge
returns-clause-edge c = edge_stays

pub returns-clause-offered : goal.returns-clause-offered
returns-clause-offered c = offers_in_order

pub returns-clause-honoured : goal.returns-clause-honoured
returns-clause-honoured c = shown_is_within

pub returns-clause-shown : goal.returns-clause-shown
returns-clause-shown c = shown_stays
