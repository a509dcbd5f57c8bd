-- Answers of the proof of laws/orders_are_of_all.
use Rattle.host_books.proofs.Orders.{all_done}
use Rattle.host_books.proofs.laws.orders_are_of_all.Goals as goal

pub returns : goal.returns
returns g c = all_done
