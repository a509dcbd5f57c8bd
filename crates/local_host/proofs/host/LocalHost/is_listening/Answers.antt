use Rattle.std.proofs.Common.{sym, ap, ◌∙◌}
use Rattle.host_rounds.specs.Hosts.{is_listened}
use Rattle.local_host.proofs.Ports.{listened_low}
use Rattle.local_host.proofs.host.LocalHost.is_listening.Goals as goal

pub returns-else-self-clause-low : goal.returns-else-self-clause-low
returns-else-self-clause-low c = λ listening loose.
    listened_low c.args.port c.self.inside.listeners.items (c.self.invariant.ports c.if-self.false).listened
    (ap (is_listened c.args.port) c.self.view_is ∙ (sym c.is_listened.ensures ∙ listening))
