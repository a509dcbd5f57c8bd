use Rattle.std.proofs.Common.{map}
use Rattle.host_rounds.specs.Upkeep.{quieted}
use Rattle.local_host.proofs.Indexing.{quieted_keeps}
use Rattle.local_host.proofs.Ports.{host_map, host_done}
use Rattle.local_host.proofs.host.LocalHost.send_all_on_cores.Goals as goal

pub invariant_of-self : goal.invariant_of-self
invariant_of-self g c =
    host_done c.send_all_on_cores.result (map (quieted c.args.tick) c.self.inside.flows)
    c.send_all_on_cores.new.self c.self.invariant
    (host_map (quieted c.args.tick) (quieted_keeps c.args.tick) c.self.invariant)
    c.send_all_on_cores.ensures.made c.send_all_on_cores.ensures.none
