-- Answers of the proof of laws/tries_keep_names.
use Rattle.script_tries.proofs.Owning.{own_still}
use Rattle.script_tries.proofs.laws.tries_keep_names.Goals as goal

pub returns : goal.returns
returns c = λ t books scripts tries replies own are. own_still t tries replies books scripts own are
