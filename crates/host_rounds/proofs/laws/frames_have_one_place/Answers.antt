use Rattle.host_rounds.proofs.OnePlace.{round_adds}
use Rattle.host_rounds.proofs.laws.frames_have_one_place.Goals as goal

pub returns : goal.returns
returns g c = λ frame scripts t due before after by_moves each round.
    round_adds scripts t due before after frame by_moves round each
