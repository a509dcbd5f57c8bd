-- Answers of the proof of laws/shares_are_done.
use Rattle.core_rounds.proofs.Shares.{shares_done}
use Rattle.core_rounds.proofs.laws.shares_are_done.Goals as goal

pub returns : goal.returns
returns g c = shares_done
