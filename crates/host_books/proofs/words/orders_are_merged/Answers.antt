-- Answers of the proof of words/orders_are_merged.
use Rattle.host_books.proofs.Merging.{len, placed, filtered}
use Rattle.host_books.proofs.words.orders_are_merged.Goals as goal

pub returns-clause-len : goal.returns-clause-len
returns-clause-len g c = len

pub returns-clause-placed : goal.returns-clause-placed
returns-clause-placed g c = placed

pub returns-clause-filtered : goal.returns-clause-filtered
returns-clause-filtered g c = filtered
