use Rattle.trace_audit.proofs.OneForm.{not_refused}
use Rattle.trace_audit.proofs.laws.what_is_of_its_form_is_not_refused.Goals as goal

pub returns : goal.returns
returns c = not_refused
