-- Answers of the proof of attempts/tries_are_set.
use Rattle.core_host.proofs.Tries.{trying_sets, taken_sets, both_set}
use Rattle.core_host.proofs.attempts.tries_are_set.Goals as goal

pub returns-clause-trying : goal.returns-clause-trying
returns-clause-trying c = trying_sets

pub returns-clause-taken : goal.returns-clause-taken
returns-clause-taken c = taken_sets

pub returns-clause-both : goal.returns-clause-both
returns-clause-both c = both_set
