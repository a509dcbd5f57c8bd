use Rattle.host_rounds.proofs.AllGrown.{round_went, round_up_to}
use Rattle.host_rounds.proofs.laws.ticks_only_add.Goals as goal

pub returns-clause-went : goal.returns-clause-went
returns-clause-went g c = λ scripts t due before after by_moves each round low.
    round_went scripts t due before after by_moves each low round

pub returns-clause-kept : goal.returns-clause-kept
returns-clause-kept g c = λ scripts t due before after by_moves each round low.
    round_up_to scripts t due before after by_moves each low round
