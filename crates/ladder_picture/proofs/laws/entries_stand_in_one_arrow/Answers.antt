use Rattle.ladder_picture.proofs.Once.{stand_once}
use Rattle.ladder_picture.proofs.laws.entries_stand_in_one_arrow.Goals as goal

pub returns : goal.returns
returns c = stand_once
