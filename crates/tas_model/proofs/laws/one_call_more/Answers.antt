use Rattle.tas_model.proofs.Grows.{legal_by}
use Rattle.tas_model.proofs.laws.one_call_more.Goals as goal

pub returns : goal.returns
returns c = legal_by
