-- Answers of the proof of laws/tries_are_independent.
use Rattle.script_tries.proofs.Together.{two_apart, all_independent}
use Rattle.script_tries.proofs.laws.tries_are_independent.Goals as goal

pub returns-clause-two : goal.returns-clause-two
returns-clause-two c = two_apart

pub returns-clause-all : goal.returns-clause-all
returns-clause-all c =
    λ sc p t books scripts tries own are. all_independent sc p t books scripts own tries are.each are.once
