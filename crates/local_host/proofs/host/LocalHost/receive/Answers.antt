use Rattle.std.proofs.Common.{◌≡◌, ℕ, Bool, false, sym, ap, subst, ◌∙◌}
use Rattle.tas_model.specs.declared.entry.Seg.{Seg}
use Rattle.flow_state.specs.Calls.{seg_of}
use Rattle.host_rounds.specs.declared.opening.Start.{Start}
use Rattle.host_rounds.specs.Lists.{change_at}
use Rattle.host_rounds.specs.Hosts.{Live, Host, is_known, next_start}
use Rattle.host_rounds.specs.Deliveries.{arrived}
use Rattle.local_host.specs.Arriving.{taking_in}
use Rattle.local_host.specs.Ports.{host_of}
use Rattle.local_host.proofs.Places.{ok_by}
use Rattle.local_host.proofs.Hosting.{changed_found, known_is, unknown_is}
use Rattle.local_host.proofs.Indexing.{received_keeps}
use Rattle.local_host.proofs.Ports.{host_change, host_done}
use Rattle.local_host.proofs.host.LocalHost.receive.Goals as goal

pub invariant_of-self : goal.invariant_of-self
invariant_of-self g c =
    let f : Live → Live = taking_in c.args.taking c.args.tick c.args.frame (seg_of c.args.seg.now) in
    host_done c.receive.result (change_at c.in-Some.i f c.self.inside.flows) c.receive.new.self c.self.invariant
    (host_change f c.in-Some.i (received_keeps c.args.taking c.args.tick c.args.frame (seg_of c.args.seg.now))
    c.self.invariant)
    c.receive.ensures.made c.receive.ensures.none

pub returns-in-Some-clause-made : goal.returns-in-Some-clause-made
returns-in-Some-clause-made g c =
    let host : Host = host_of c.self.inside.params c.self.inside.listeners.items c.self.inside.log
    c.self.inside.flows in
    let seg : Seg = seg_of c.args.seg.now in
    let f : Live → Live = taking_in c.args.taking c.args.tick c.args.frame seg in
    let found = sym c.find.ensures.place ∙ c.in-Some.is in
    let starts = g.S.StartSource.starts c.args.starts.now in
    ok_by c.receive.result
    (λ made.
    subst
    (λ (h : Host).
    record host { flows = c.receive.new.self }
    ≡ arrived (is_known h c.args.tuple) f (next_start starts h c.args.tuple) c.args.tick h c.args.frame c.args.tuple
    seg)
    c.self.view_is
    (changed_found host c.args.tuple f c.in-Some.i c.receive.new.self found made
    ∙ ap (λ (b : Bool). arrived b f (next_start starts host c.args.tuple) c.args.tick host c.args.frame c.args.tuple
    seg)
    (sym (known_is c.args.tuple host c.in-Some.i found))))
    c.receive.ensures.made

pub returns-in-None-clause-made : goal.returns-in-None-clause-made
returns-in-None-clause-made g c =
    let host : Host = host_of c.self.inside.params c.self.inside.listeners.items c.self.inside.log
    c.self.inside.flows in
    let seg : Seg = seg_of c.args.seg.now in
    let f : Live → Live = taking_in c.args.taking c.args.tick c.args.frame seg in
    let start : Start = next_start (g.S.StartSource.starts c.args.starts.now) c.args.self.now c.args.tuple in
    let none : is_known c.args.self.now c.args.tuple ≡ false =
    subst (λ (h : Host). is_known h c.args.tuple ≡ false) c.self.view_is
    (unknown_is c.args.tuple host (sym c.find.ensures.place ∙ c.in-None.is)) in
    ok_by c.meet_no_flow.result
    (λ made. made ∙ ap (λ (b : Bool). arrived b f start c.args.tick c.args.self.now c.args.frame c.args.tuple seg)
    (sym none))
    c.meet_no_flow.ensures.made
