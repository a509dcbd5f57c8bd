use Rattle.host_rounds.proofs.AllLegal.{round_kept}
use Rattle.host_rounds.proofs.laws.ticks_keep_histories.Goals as goal

pub returns : goal.returns
returns g c = λ scripts t due before after by_moves each round.
    round_kept scripts t due before after by_moves round each
