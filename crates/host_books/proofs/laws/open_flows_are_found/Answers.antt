-- Answers of the proof of laws/open_flows_are_found.
use Rattle.host_books.proofs.Indexing.{found}
use Rattle.host_books.proofs.laws.open_flows_are_found.Goals as goal

pub returns : goal.returns
returns c = λ books known n id are at open_. found known n id books are.running are.once at open_
