use Rattle.trace_audit.proofs.OneForm.{one_form}
use Rattle.trace_audit.proofs.laws.a_text_says_one_thing.Goals as goal

pub returns : goal.returns
returns c = one_form
