use Rattle.two_ends.proofs.Ends.{run_hears}
use Rattle.two_ends.proofs.Texts.{text_hears}
use Rattle.two_ends.proofs.laws.two_ends_are_one_stream.Goals as goal

pub returns-clause-in_range : goal.returns-clause-in_range
returns-clause-in_range c = run_hears

pub returns-clause-of_texts : goal.returns-clause-of_texts
returns-clause-of_texts c = text_hears
