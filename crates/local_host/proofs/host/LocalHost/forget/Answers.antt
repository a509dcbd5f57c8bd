use Rattle.std.proofs.Common.{◌≡◌, ◌==◌, not, Bool, List, map, subst, sym, ap, ◌∙◌, rules, tests}
use Rattle.std.specs.List.{filter}
use Rattle.std.proofs.lemmas.Fn.{filter_same}
use Rattle.host_rounds.specs.Hosts.{Host, Listener}
use Rattle.local_host.specs.declared.host.Listener as code
use Rattle.local_host.specs.Ports.{listener_in, host_of, IsHost}
use Rattle.local_host.proofs.Ports.{host_forgot, left_mapped}
use Rattle.local_host.proofs.host.LocalHost.forget.Goals as goal

abbrev stays : (c : goal.After-retain) → code.Listener → Bool
stays c l = not (l.app == c.args.app)

left : (c : goal.After-retain) → c.retain.new.self.items ≡ filter (stays c) c.self.inside.listeners.items
left c = filter_same _ (stays c) _ (λ x b q k. search (rules, tests)) _ _ c.retain.ensures.filtered

pub invariant_of-self : goal.invariant_of-self
invariant_of-self c = subst (λ (ls : List code.Listener). IsHost c.self.inside.params ls c.self.inside.flows)
    (sym (left c)) (host_forgot (stays c) c.self.invariant)

pub returns : goal.returns
returns c =
    subst
    (λ (h : Host).
    host_of c.self.inside.params c.retain.new.self.items c.self.inside.log c.self.inside.flows
    ≡ record h { listeners = filter (λ (l : Listener). not (l.app == c.args.app)) h.listeners })
    c.self.view_is
    (ap (λ (ls : List Listener). record {
      params = c.self.inside.params;
      listeners = ls;
      log = c.self.inside.log;
      flows = c.self.inside.flows;
    })
    (ap (map listener_in) (left c) ∙ left_mapped (λ (l : Listener). not (l.app == c.args.app))
    c.self.inside.listeners.items))
