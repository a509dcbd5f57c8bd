-- Answers of the proof of changing/holders_change_at_a_place.
use Rattle.sound_calls.proofs.Places.{left_at, accepted_at}
use Rattle.sound_calls.proofs.changing.holders_change_at_a_place.Goals as goal

pub returns-clause-left : goal.returns-clause-left
returns-clause-left c n place id books at has = left_at n id place books at has

pub returns-clause-accepted : goal.returns-clause-accepted
returns-clause-accepted c n place id books at = accepted_at n id place books at
