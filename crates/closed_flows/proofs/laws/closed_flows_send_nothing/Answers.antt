use Rattle.closed_flows.proofs.AllStill.{round_still, closed_silent_at}
use Rattle.closed_flows.proofs.laws.closed_flows_send_nothing.Goals as goal

pub returns : goal.returns
returns g c = λ scripts t due before after by_moves legal round n l.
    closed_silent_at before.host.flows after.host.flows n l
    (round_still scripts t due before after by_moves legal round)
