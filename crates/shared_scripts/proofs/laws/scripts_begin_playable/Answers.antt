-- Answers of the proof of laws/scripts_begin_playable.
use Rattle.shared_scripts.proofs.Beginning.{begins}
use Rattle.shared_scripts.proofs.laws.scripts_begin_playable.Goals as goal

pub returns : goal.returns
returns c = begins
