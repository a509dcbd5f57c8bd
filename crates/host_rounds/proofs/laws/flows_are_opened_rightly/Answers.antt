use Rattle.host_rounds.proofs.AllOpened.{round_opened}
use Rattle.host_rounds.proofs.laws.flows_are_opened_rightly.Goals as goal

pub returns : goal.returns
returns g c = λ scripts t due before after by_moves each round.
    round_opened scripts t due before after by_moves round each
