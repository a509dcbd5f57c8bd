-- Answers of the proof of laws/words_leave.
use Rattle.host_books.proofs.Telling.{told}
use Rattle.host_books.proofs.laws.words_leave.Goals as goal

pub returns : goal.returns
returns g c = told
