use Rattle.closed_flows.proofs.AllStill.{round_still, unindexed_after, unindexed_early}
use Rattle.closed_flows.proofs.laws.unindexed_flows_send_nothing.Goals as goal

pub returns-clause-after : goal.returns-clause-after
returns-clause-after g c = λ scripts t due before after by_moves legal round find n m.
    unindexed_after before.host.flows after.host.flows n m find
    (round_still scripts t due before after by_moves legal round)

pub returns-clause-slow : goal.returns-clause-slow
returns-clause-slow g c = λ scripts t due before after by_moves legal round find n m.
    unindexed_early t before.host.flows after.host.flows n m find
    (round_still scripts t due before after by_moves legal round)
