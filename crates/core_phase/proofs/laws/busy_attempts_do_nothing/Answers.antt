-- Answers of the proof of laws/busy_attempts_do_nothing.
use Rattle.core_phase.proofs.Wording.{busy_none}
use Rattle.core_phase.proofs.laws.busy_attempts_do_nothing.Goals as goal

pub returns : goal.returns
returns c = busy_none
