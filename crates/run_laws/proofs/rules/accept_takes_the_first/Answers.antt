use Rattle.run_laws.proofs.OneByOne.{first_is_accepted}
use Rattle.run_laws.proofs.rules.accept_takes_the_first.Goals as goal

pub returns : goal.returns
returns c = first_is_accepted
