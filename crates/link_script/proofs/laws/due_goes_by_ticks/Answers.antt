use Rattle.link_script.proofs.Coming.{due_by_ticks}
use Rattle.link_script.proofs.laws.due_goes_by_ticks.Goals as goal

pub returns : goal.returns
returns c = due_by_ticks
