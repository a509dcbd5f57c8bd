use Rattle.std.proofs.Common.{◌≡◌, ◌<◌, ◌+◌, ◌-◌, ◌^◌, ◌++◌, [], ◌∷◌, length, sym, ap, subst, ◌∙◌}
use Rattle.tas_model.specs.declared.entry.FourTuple.{FourTuple}
use Rattle.host_rounds.specs.Hosts.{Live, Host, first_port, ports_given}
use Rattle.local_host.specs.Index.{given_in}
use Rattle.local_host.proofs.Ports.{host_next, host_done}
use Rattle.local_host.proofs.host.LocalHost.open_connected.Goals as goal

pub invariant_of-self : goal.invariant_of-self
invariant_of-self g c =
    host_done c.push.result (c.self.inside.flows ++ c.in_ok-flow.flow ∷ []) c.push.new.self c.self.invariant
    (host_next c.in_ok-flow.flow
    (subst (λ (h : Host). length h.flows < 2 ^ 32 - 1) (sym c.self.view_is) c.requires.few)
    (λ loose.
    subst (λ (t : FourTuple). t.lport ≡ first_port + given_in c.self.inside.flows)
    (sym (ap (λ (l : Live). l.flow.tuple) c.in_ok-flow.ensures))
    (c.requires.port (sym (ap (λ (h : Host). h.params.fixed) c.self.view_is) ∙ loose)
    ∙ ap (λ (h : Host). first_port + ports_given h) (sym c.self.view_is)))
    c.self.invariant)
    c.push.ensures.made c.push.ensures.none
