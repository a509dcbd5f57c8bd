use Rattle.program_words.proofs.Found.{told}
use Rattle.program_words.proofs.reading.found_for.Goals as goal

pub returns : goal.returns
returns c id = told id c.in-Some.found.now _ c.in-Some.ensures.rows
