-- Answers of the proof of laws/deeds_keep_the_index.
use Rattle.host_books.proofs.Indexing.{still_indexed, held_indexed}
use Rattle.host_books.proofs.laws.deeds_keep_the_index.Goals as goal

pub returns-clause-done : goal.returns-clause-done
returns-clause-done c = λ books known d are there legal keeps. still_indexed known d there keeps books legal are

pub returns-clause-held : goal.returns-clause-held
returns-clause-held c = λ books known n holds are. held_indexed known n holds books are
