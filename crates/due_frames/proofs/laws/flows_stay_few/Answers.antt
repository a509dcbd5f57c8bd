use Rattle.due_frames.proofs.Few.{rightly_few, round_few}
use Rattle.due_frames.proofs.laws.flows_stay_few.Goals as goal

pub returns-clause-opened : goal.returns-clause-opened
returns-clause-opened g c = rightly_few

pub returns-clause-kept : goal.returns-clause-kept
returns-clause-kept g c = round_few
