-- Answers of the proof of ports/next_ports_are_free.
use Rattle.std.proofs.Common.{List, ap, refl, ◌∙◌}
use Rattle.slow_worker.specs.Workers.{flow_with}
use Rattle.slow_worker.specs.declared.known.KnownFlow.{KnownFlow}
use Rattle.libtas_sockets.specs.Connecting.{next_tuple}
use Rattle.sound_hosts.specs.Hosts.{known_in}
use Rattle.sound_hosts.proofs.Given.{next_apart}
use Rattle.sound_hosts.proofs.ports.next_ports_are_free.Goals as goal

pub returns : goal.returns
returns c h raddr rport sound free =
    ap (λ (fs : List KnownFlow). flow_with (next_tuple h.slow.path raddr rport) fs) sound.kept.flows
    ∙ next_apart (known_in h) (next_tuple h.slow.path raddr rport) h.slow.path.ports refl h.books
    (sound.opening.given free)
