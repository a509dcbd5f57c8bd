-- Answers of the proof of laws/asks_make_a_row.
use Rattle.core_host.specs.Asked.{asked_itself, asked_on}
use Rattle.core_host.proofs.laws.asks_make_a_row.Goals as goal

pub returns-clause-none : goal.returns-clause-none
returns-clause-none c = asked_itself

pub returns-clause-both : goal.returns-clause-both
returns-clause-both c = asked_on
