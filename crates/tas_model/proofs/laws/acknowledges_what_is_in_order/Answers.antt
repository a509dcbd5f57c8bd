use Rattle.tas_model.proofs.AckLaw.{acks_in_order}
use Rattle.tas_model.proofs.laws.acknowledges_what_is_in_order.Goals as goal

pub returns : goal.returns
returns c = acks_in_order
