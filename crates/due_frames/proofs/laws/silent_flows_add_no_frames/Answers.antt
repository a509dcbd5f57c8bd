use Rattle.due_frames.proofs.SilentFrames.{silent_frames}
use Rattle.due_frames.proofs.laws.silent_flows_add_no_frames.Goals as goal

pub returns : goal.returns
returns c = λ host flow n to tuple h g. silent_frames host flow to tuple n h g
