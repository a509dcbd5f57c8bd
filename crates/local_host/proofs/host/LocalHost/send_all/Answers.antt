use Rattle.std.proofs.Common.{map}
use Rattle.host_rounds.specs.Upkeep.{quieted}
use Rattle.local_host.proofs.Indexing.{quieted_keeps}
use Rattle.local_host.proofs.Ports.{host_map, host_done}
use Rattle.local_host.proofs.host.LocalHost.send_all.Goals as goal

pub invariant_of-self : goal.invariant_of-self
invariant_of-self c =
    host_done c.send_all.result (map (quieted c.args.tick) c.self.inside.flows) c.send_all.new.self c.self.invariant
    (host_map (quieted c.args.tick) (quieted_keeps c.args.tick) c.self.invariant) c.send_all.ensures.made
    c.send_all.ensures.none
