use Rattle.run_laws.proofs.Computed.{late_answer_is}
use Rattle.run_laws.proofs.worked.worked_rest.Goals as goal

pub returns : goal.returns
returns c = late_answer_is
