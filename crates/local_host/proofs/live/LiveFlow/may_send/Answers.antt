use Rattle.std.proofs.Common.{◌≡◌, true, false, not, is_some, ap, subst, sym, ◌∙◌}
use Rattle.tas_model.specs.NextSegment.{going}
use Rattle.tas_model.proofs.ValidCalls.{valid_replay}
use Rattle.flow_state.specs.declared.parts.Parts.{Parts}
use Rattle.flow_state.specs.Stands.{Stands}
use Rattle.host_rounds.specs.Hosts.{Live, endpoint}
use Rattle.local_host.specs.Live.{flow_in}
use Rattle.local_host.specs.Inside.{live_of}
use Rattle.local_host.proofs.Emitting.{told_where}
use Rattle.local_host.proofs.Sleeping.{still_asleep, none_goes}
use Rattle.local_host.proofs.Waking.{as_recorded}
use Rattle.local_host.proofs.live.LiveFlow.may_send.Goals as goal

pub returns-then-not-is_asleep : goal.returns-then-not-is_asleep
returns-then-not-is_asleep c =
    let awake : c.is_asleep.result ≡ false = c.if-not-is_asleep.true in
    let l : Live = record (live_of c.self.inside) { flow = flow_in c.self.inside.history } in
    let is : l ≡ c.args.self.now =
    as_recorded c.self.inside c.args.self.now (c.is_asleep.ensures.awake awake) c.self.view_is in
    let p = c.parts-parts.ensures in
    c.is_some.ensures
    ∙ (ap is_some (c.next_out.ensures.segment (endpoint l)
    (valid_replay l.flow.params l.flow.entries p.ranges p.legal)
    (subst (λ (q : Parts). Stands q (endpoint l)) (sym p.parts) p.stands))
    ∙ (told_where (going (endpoint l)) ∙ ap (λ (m : Live). is_some (going (endpoint m))) is))

pub returns-else-not-is_asleep : goal.returns-else-not-is_asleep
returns-else-not-is_asleep c =
    let l : Live = live_of c.self.inside in
    let asleep : c.is_asleep.result ≡ true = c.if-not-is_asleep.false in
    let still = still_asleep c.self.inside.sleep (flow_in c.self.inside.history) c.parts-parts.ensures.legal
    c.self.invariant (c.is_asleep.ensures.asleep asleep) in
    ap not asleep ∙ (sym (none_goes l still) ∙ ap (λ (m : Live). is_some (going (endpoint m))) c.self.view_is)
