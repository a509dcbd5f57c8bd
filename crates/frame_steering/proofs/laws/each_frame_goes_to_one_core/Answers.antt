use Rattle.frame_steering.proofs.Given.{given_once}
use Rattle.frame_steering.proofs.laws.each_frame_goes_to_one_core.Goals as goal

pub returns : goal.returns
returns g c = given_once
