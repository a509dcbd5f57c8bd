use Rattle.host_rounds.proofs.AllCame.{round_came}
use Rattle.host_rounds.proofs.run_laws.only_what_came_is_shown.Goals as goal

pub returns : goal.returns
returns g c = λ came scripts t due before after by_moves each round all is.
    round_came came scripts t due before after by_moves each round all is
