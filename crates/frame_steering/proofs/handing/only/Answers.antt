use Rattle.frame_steering.proofs.Growing.{only_one}
use Rattle.frame_steering.proofs.handing.only.Goals as goal

pub returns : goal.returns
returns c = only_one c.args.group c.requires
