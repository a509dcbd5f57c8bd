use Rattle.ladder_picture.proofs.Joining.{are_joined, of_one_frame}
use Rattle.ladder_picture.proofs.laws.emissions_join_their_arrivals.Goals as goal

pub returns : goal.returns
returns c = record { joined = are_joined; alone = of_one_frame }
