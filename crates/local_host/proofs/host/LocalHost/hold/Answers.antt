use Rattle.std.proofs.Common.{subst, sym}
use Rattle.local_host.specs.Ports.{IsHost}
use Rattle.local_host.proofs.Holding.{held, held_keeps}
use Rattle.local_host.proofs.Ports.{host_change}
use Rattle.local_host.proofs.host.LocalHost.hold.Goals as goal

pub invariant_of-self : goal.invariant_of-self
invariant_of-self c =
    subst (IsHost c.self.inside.params c.self.inside.listeners.items) (sym c.hold.ensures)
    (host_change (held c.args.holder) c.args.i (held_keeps c.args.holder) c.self.invariant)
