use Rattle.host_rounds.proofs.Slots.{lowest_is, none_is, none_more}
use Rattle.host_rounds.proofs.laws.slots_are_given_from_below.Goals as goal

pub returns-clause-lowest : goal.returns-clause-lowest
returns-clause-lowest c = lowest_is

pub returns-clause-none : goal.returns-clause-none
returns-clause-none c = none_is

pub returns-clause-last : goal.returns-clause-last
returns-clause-last c = λ host all. none_more host.params.slots host.flows all
