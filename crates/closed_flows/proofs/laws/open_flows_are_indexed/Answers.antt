use Rattle.closed_flows.proofs.AllStill.{round_still, findable_after}
use Rattle.closed_flows.proofs.laws.open_flows_are_indexed.Goals as goal

pub returns : goal.returns
returns g c = λ scripts t due before after by_moves legal round find.
    findable_after before.host.flows after.host.flows find
    (round_still scripts t due before after by_moves legal round)
