use Rattle.host_rounds.proofs.AllMet.{round_met}
use Rattle.host_rounds.proofs.run_laws.strangers_are_met_rightly.Goals as goal

pub returns : goal.returns
returns g c = λ scripts t due before after by_moves each round met.
    round_met scripts t due before after by_moves each round met
