use Rattle.two_ends.proofs.Origins.{run_comes}
use Rattle.two_ends.proofs.laws.what_is_taken_was_sent.Goals as goal

pub returns : goal.returns
returns c = run_comes
