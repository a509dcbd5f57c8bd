-- Answers of the proof of laws/orders_are_of_cores.
use Rattle.host_books.proofs.Orders.{cores_done}
use Rattle.host_books.proofs.laws.orders_are_of_cores.Goals as goal

pub returns : goal.returns
returns g c = cores_done
