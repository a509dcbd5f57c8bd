use Rattle.std.proofs.Common.{refl}
use Rattle.std.specs.Fmt.{digits}
use Rattle.run_laws.proofs.worked.worked_words.Goals as goal

pub returns-clause-no_flag : goal.returns-clause-no_flag
returns-clause-no_flag c = refl

pub returns-clause-fin : goal.returns-clause-fin
returns-clause-fin c = refl

pub returns-clause-syn : goal.returns-clause-syn
returns-clause-syn c = refl

pub returns-clause-rst : goal.returns-clause-rst
returns-clause-rst c = refl

pub returns-clause-psh : goal.returns-clause-psh
returns-clause-psh c = refl

pub returns-clause-ack : goal.returns-clause-ack
returns-clause-ack c = refl

pub returns-clause-urg : goal.returns-clause-urg
returns-clause-urg c = refl

pub returns-clause-ece : goal.returns-clause-ece
returns-clause-ece c = refl

pub returns-clause-cwr : goal.returns-clause-cwr
returns-clause-cwr c = refl

pub returns-clause-all_flags : goal.returns-clause-all_flags
returns-clause-all_flags c = refl

pub returns-clause-no_port : goal.returns-clause-no_port
unfolding digits
returns-clause-no_port c = refl

pub returns-clause-no_slot : goal.returns-clause-no_slot
unfolding digits
returns-clause-no_slot c = refl

pub returns-clause-full : goal.returns-clause-full
unfolding digits
returns-clause-full c = refl

pub returns-clause-crowded : goal.returns-clause-crowded
unfolding digits
returns-clause-crowded c = refl

pub returns-clause-listens : goal.returns-clause-listens
unfolding digits
returns-clause-listens c = refl

pub returns-clause-in_use : goal.returns-clause-in_use
unfolding digits
returns-clause-in_use c = refl
