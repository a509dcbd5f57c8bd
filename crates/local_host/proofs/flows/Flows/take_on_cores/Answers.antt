use Rattle.std.proofs.Common.{map}
use Rattle.local_host.specs.Arriving.{arrival_in}
use Rattle.local_host.proofs.CoreTaking.{sound_side}
use Rattle.local_host.proofs.flows.Flows.take_on_cores.Goals as goal

pub settle-requires : goal.settle-requires
settle-requires g c =
    sound_side c.args.tick c.self.inside.table.flows.items c.take_on_cores-done.new.flows.items
    c.args.steered.now (map arrival_in c.args.arrivals.now) c.args.attempts.items c.take_on_cores-done.result
    c.take_on_cores-done.ensures c.self.invariant
