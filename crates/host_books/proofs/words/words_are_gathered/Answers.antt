-- Answers of the proof of words/words_are_gathered.
use Rattle.host_books.proofs.Gathering.{all_deeds, all_moved}
use Rattle.host_books.proofs.words.words_are_gathered.Goals as goal

pub returns-clause-deeds : goal.returns-clause-deeds
returns-clause-deeds g c = all_deeds

pub returns-clause-moved : goal.returns-clause-moved
returns-clause-moved g c = λ deed has turns order words below are. all_moved deed has turns order words below are
