use Rattle.ladder_picture.proofs.Standing.{arrows_down}
use Rattle.ladder_picture.proofs.laws.arrows_go_down.Goals as goal

pub returns : goal.returns
returns c = arrows_down
