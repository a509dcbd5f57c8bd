use Rattle.two_ends.proofs.Ends.{run_reads}
use Rattle.two_ends.proofs.Texts.{text_reads}
use Rattle.two_ends.proofs.laws.what_is_read_was_sent.Goals as goal

pub returns-clause-in_range : goal.returns-clause-in_range
returns-clause-in_range c = run_reads

pub returns-clause-of_texts : goal.returns-clause-of_texts
returns-clause-of_texts c = text_reads
