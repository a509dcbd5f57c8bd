use Rattle.local_host.proofs.CoreTaking.{none_tried}
use Rattle.local_host.proofs.host.LocalHost.receive_on_cores.Goals as goal

pub returns-clause-steered : goal.returns-clause-steered
returns-clause-steered g c =
    none_tried c.new-none.result.items c.in_ok-side.side.attempts.items c.new-none.ensures.items
    c.in_ok-side.ensures.made

pub returns-clause-made : goal.returns-clause-made
returns-clause-made g c =
    (none_tried c.new-none.result.items c.in_ok-side.side.attempts.items c.new-none.ensures.items
    c.in_ok-side.ensures.made).phase
