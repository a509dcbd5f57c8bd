use Rattle.std.proofs.Common.{rules, tests, ◌≡◌, ◌==◌, ◌&&◌, sym, ap, ◌∙◌}
use Rattle.std.specs.List.{list_any}
use Rattle.std.proofs.lemmas.Iterator.{YieldsList-from_slice}
use Rattle.std.proofs.lemmas.Iterator.Search.{any_from_yields_List}
use Rattle.capture_items.proofs.Batches.{any_mapped}
use Rattle.host_rounds.specs.Hosts.{Host, Listener}
use Rattle.local_host.specs.declared.host.Listener as code
use Rattle.local_host.specs.Ports.{listener_in}
use Rattle.local_host.proofs.host.LocalHost.has_listener.Goals as goal

pub returns : goal.returns
returns c =
    let found : c.any.result ≡ list_any (λ (l : code.Listener). l.app == c.args.app && l.port == c.args.port)
    c.self.inside.listeners.items = any_from_yields_List
    (λ (l : code.Listener). l.app == c.args.app && l.port == c.args.port) _ _ _ c.any.ensures.ran
    (YieldsList-from_slice c.self.inside.listeners.items (search rules)) (λ x b q k. search (rules, tests)) in
    found
    ∙ (sym (any_mapped (λ (l : Listener). l.app == c.args.app && l.port == c.args.port) listener_in
    c.self.inside.listeners.items)
    ∙ ap (λ (h : Host). list_any (λ (l : Listener). l.app == c.args.app && l.port == c.args.port) h.listeners)
    c.self.view_is)
