use Rattle.host_rounds.proofs.AllTimed.{round_timed}
use Rattle.host_rounds.proofs.laws.open_flows_have_one_tick.Goals as goal

pub returns : goal.returns
returns g c = round_timed
