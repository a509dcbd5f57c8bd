use Rattle.tas_model.proofs.WindowLaw.{newer_is_taken, as_new_is_taken, older_is_not, older_ack_is_not}
use Rattle.tas_model.proofs.endpoint_laws.window_is_the_newest.Goals as goal

pub returns-clause-newer : goal.returns-clause-newer
returns-clause-newer c = newer_is_taken

pub returns-clause-as_new : goal.returns-clause-as_new
returns-clause-as_new c = as_new_is_taken

pub returns-clause-older : goal.returns-clause-older
returns-clause-older c = older_is_not

pub returns-clause-acknowledges_less : goal.returns-clause-acknowledges_less
returns-clause-acknowledges_less c = older_ack_is_not
