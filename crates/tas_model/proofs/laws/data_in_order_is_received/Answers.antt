use Rattle.tas_model.proofs.InOrder.{rx_in_order}
use Rattle.tas_model.proofs.laws.data_in_order_is_received.Goals as goal

pub returns : goal.returns
returns c = rx_in_order
