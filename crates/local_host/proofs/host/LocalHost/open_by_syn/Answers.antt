use Rattle.std.proofs.Common.{◌≡◌, Bool, ℕ, ◌++◌, [], ◌∷◌, ◌<◌, ◌-◌, ◌^◌, length, Option, Some, IfSome, false}
use Rattle.std.proofs.Common.{sym, ap, subst, ◌∙◌}
use Rattle.tas_model.specs.declared.entry.FourTuple.{FourTuple}
use Rattle.tas_model.specs.declared.entry.Seg.{Seg}
use Rattle.flow_state.specs.Calls.{seg_of}
use Rattle.tas_model.specs.declared.entry.Entry.{Entry}
use Rattle.tas_model.specs.declared.entry.Caller.TheVariants.{Slow}
use Rattle.tas_model.specs.declared.entry.Call.TheVariants as calls
use Rattle.host_rounds.specs.declared.opening.Start.{Start}
use Rattle.host_rounds.specs.Hosts.{Host, Live, Waiting, is_full, lowest_free, flow_params, next_start}
use Rattle.host_rounds.specs.Hosts.{first_entry, first_port}
use Rattle.host_rounds.specs.Deliveries.{opened_by_syn}
use Rattle.local_host.specs.Live.{opened_live}
use Rattle.local_host.proofs.Places.{ok_by}
use Rattle.local_host.proofs.Hosting.{syn_opened}
use Rattle.local_host.proofs.Ports.{host_low, host_done}
use Rattle.local_host.proofs.host.LocalHost.open_by_syn.Goals as goal

pub invariant_of-self : goal.invariant_of-self
invariant_of-self g c =
    host_done c.push.result (c.self.inside.flows ++ c.in_ok-flow-in-Some.flow ∷ []) c.push.new.self c.self.invariant
    (host_low c.in_ok-flow-in-Some.flow
    (subst (λ (o : Option ℕ). IfSome o (λ (slot : ℕ). length c.self.inside.flows < 2 ^ 32 - 1)) c.in-Some.is
    c.lowest_free.ensures.few)
    (λ loose.
    subst (λ (t : FourTuple). t.lport < first_port)
    (sym (ap (λ (l : Live). l.flow.tuple) c.in_ok-flow-in-Some.ensures))
    (c.requires.port (sym (ap (λ (h : Host). h.params.fixed) c.self.view_is) ∙ loose)))
    c.self.invariant)
    c.push.ensures.made c.push.ensures.none

pub returns-in_ok-flow-in-Some-clause-made : goal.returns-in_ok-flow-in-Some-clause-made
returns-in_ok-flow-in-Some-clause-made g c =
    let host : Host = c.args.self.now in
    let seg : Seg = seg_of c.args.seg.now in
    let start : Start = next_start (g.S.StartSource.starts c.args.starts.now) host c.args.tuple in
    let x : Entry = first_entry Slow c.args.tick (calls.Passive c.args.frame c.next_start-start.result.number seg) in
    let free : lowest_free host ≡ Some c.in-Some.slot =
    subst (λ (h : Host). lowest_free h ≡ Some c.in-Some.slot) c.self.view_is
    (sym c.lowest_free.ensures.free ∙ c.in-Some.is) in
    let full : is_full host c.args.tuple.lport ≡ false = sym c.is_full.ensures ∙ c.if-is_full.false in
    let params : c.flow_params-params.result ≡ flow_params host.params start.scale =
    c.flow_params-params.ensures.params
    ∙ (ap (λ (h : Host). flow_params h.params c.next_start-start.result.scale) c.self.view_is
    ∙ ap (λ (s : Start). flow_params host.params s.scale) c.next_start-start.ensures.start) in
    ok_by c.push.result
    (λ made.
    subst
    (λ (h : Host). record h { flows = c.push.new.self }
    ≡ opened_by_syn (is_full host c.args.tuple.lport) (lowest_free host) start c.args.tick host c.args.frame
    c.args.tuple seg)
    (sym c.self.view_is)
    (syn_opened host c.in-Some.slot c.args.tick c.args.frame c.args.tuple seg start c.next_start-start.result
    c.flow_params-params.result c.next_id-id.result c.push.new.self free c.next_id-id.ensures params
    c.next_start-start.ensures.start
    (made
    ∙ (ap (λ (l : Live). c.self.inside.flows ++ l ∷ []) c.in_ok-flow-in-Some.ensures
    ∙ ap (λ (h : Host). h.flows ++ opened_live c.next_id-id.result c.args.tuple c.flow_params-params.result Waiting x
    ∷ [])
    c.self.view_is))
    ∙ ap (λ (b : Bool). opened_by_syn b (lowest_free host) start c.args.tick host c.args.frame c.args.tuple seg)
    (sym full)))
    c.push.ensures.made
