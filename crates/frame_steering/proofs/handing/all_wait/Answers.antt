use Rattle.frame_steering.proofs.Growing.{each_waits}
use Rattle.frame_steering.proofs.handing.all_wait.Goals as goal

pub returns : goal.returns
returns c = each_waits
