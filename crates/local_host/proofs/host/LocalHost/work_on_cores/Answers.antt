use Rattle.std.proofs.Common.{List, ◌++◌, ◌∙◌, map, ap, subst, IfOk}
use Rattle.host_rounds.specs.Hosts.{Host}
use Rattle.local_host.specs.declared.arrival.Arrival.{Arrival}
use Rattle.local_host.specs.declared.cores.SideWork.{SideWork}
use Rattle.local_host.specs.Arriving.{arrival_in}
use Rattle.local_host.specs.SideWork.{IsSidePhase}
use Rattle.local_host.specs.Ports.{host_of}
use Rattle.local_host.proofs.CoreTaking.{host_side, phase_side, none_worked}
use Rattle.local_host.proofs.host.LocalHost.work_on_cores.Goals as goal

pub invariant_of-self : goal.invariant_of-self
invariant_of-self g c =
    host_side c.args.tick c.self.inside.flows c.take_on_cores.new.self c.args.steered.now
    (map arrival_in c.args.arrivals.now) c.args.attempts.items c.take_on_cores.result c.take_on_cores.ensures.made
    c.take_on_cores.ensures.none c.self.invariant

pub returns-then-branch-clause-made : goal.returns-then-branch-clause-made
returns-then-branch-clause-made g c =
    let host : Host = host_of c.self.inside.params c.self.inside.listeners.items c.self.inside.log c.self.inside.flows
    in
    subst
    (λ (h : Host).
    IfOk c.take_on_cores.result (λ (w : SideWork). IsSidePhase c.args.tick h c.args.steered.now
    (map arrival_in c.args.arrivals.now) (map arrival_in w.rest.items) c.args.attempts.items w.attempts.items
    (record host { flows = c.take_on_cores.new.self })))
    c.self.view_is
    (phase_side c.args.tick host c.take_on_cores.new.self c.args.steered.now (map arrival_in c.args.arrivals.now)
    c.args.attempts.items c.take_on_cores.result c.take_on_cores.ensures.made)

pub returns-clause-made : goal.returns-clause-made
returns-clause-made g c =
    none_worked c.args.tick c.args.self.now c.args.steered.now (map arrival_in c.args.arrivals.now)
    (map arrival_in c.extend_from_slice.new.self.items) c.args.attempts.items
    (ap (map arrival_in) (c.in_ok-extend_from_slice.ensures.items
    ∙ ap (λ (xs : List Arrival). xs ++ c.args.arrivals.now) c.new-rest.ensures.items))
    c.requires.fresh
