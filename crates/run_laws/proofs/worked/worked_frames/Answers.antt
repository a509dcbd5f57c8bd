use Rattle.run_laws.proofs.Computed.{all_due_are}
use Rattle.run_laws.proofs.worked.worked_frames.Goals as goal

pub returns : goal.returns
returns c = all_due_are
