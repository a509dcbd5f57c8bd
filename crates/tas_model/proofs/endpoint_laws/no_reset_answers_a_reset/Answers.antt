use Rattle.tas_model.proofs.ResetLaw.{no_reset_for_a_reset}
use Rattle.tas_model.proofs.endpoint_laws.no_reset_answers_a_reset.Goals as goal

pub returns : goal.returns
returns c = no_reset_for_a_reset
