use Rattle.due_frames.proofs.Distinct.{due_distinct}
use Rattle.due_frames.proofs.laws.due_frames_are_distinct.Goals as goal

pub returns : goal.returns
returns c = due_distinct
