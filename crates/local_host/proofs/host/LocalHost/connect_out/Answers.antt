use Rattle.std.proofs.Common.{◌≡◌, ◌+◌, None, position, sym, ap, subst, ◌∙◌}
use Rattle.tas_model.specs.declared.entry.FourTuple.{FourTuple}
use Rattle.host_rounds.specs.Hosts.{Host, is_indexed_as, first_port, ports_given}
use Rattle.local_host.proofs.Ports.{next_is_fresh}
use Rattle.local_host.proofs.host.LocalHost.connect_out.Goals as goal

pub open_connected-requires-clause-fresh : goal.open_connected-requires-clause-fresh
open_connected-requires-clause-fresh g c =
    let tuple : FourTuple = record {
      laddr = c.self.inside.params.addr;
      lport = c.in-Some-next_port.lport;
      raddr = c.args.raddr;
      rport = c.args.rport;
    } in
    subst (λ (h : Host). position (is_indexed_as tuple) h.flows ≡ None) c.self.view_is
    (next_is_fresh tuple c.self.inside.flows (ap (λ (h : Host). h.params.fixed) c.self.view_is ∙ c.requires)
    (c.in-Some-next_port.ensures.some ∙ ap (λ (h : Host). first_port + ports_given h) (sym c.self.view_is))
    c.self.invariant)
