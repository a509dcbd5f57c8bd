use Rattle.ladder_picture.proofs.Pictures.{well_formed}
use Rattle.ladder_picture.proofs.laws.drawings_are_well_formed.Goals as goal

pub returns : goal.returns
returns c = λ look absolute left right rungs. well_formed look absolute left right rungs
