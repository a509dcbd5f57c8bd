use Rattle.std.proofs.Common.{◌≡◌, [], ap, ◌∙◌}
use Rattle.tas_model.specs.declared.entry.Caller.TheVariants.{Core}
use Rattle.tas_model.specs.declared.entry.Call.TheVariants as calls
use Rattle.flow_state.specs.Calls.{seg_of}
use Rattle.host_rounds.specs.Hosts.{Live, endpoint}
use Rattle.host_rounds.specs.Deliveries.{is_fast}
use Rattle.local_host.specs.Live.{flow_in}
use Rattle.local_host.specs.Inside.{live_of}
use Rattle.local_host.proofs.Acting.{acted, acted_live}
use Rattle.local_host.proofs.FastSegments.{fast_answers}
use Rattle.local_host.proofs.Waking.{woken}
use Rattle.local_host.proofs.live.LiveFlow.take_segment.Goals as goal

pub returns-clause-made : goal.returns-clause-made
returns-clause-made c =
    let a = c.in_ok-answer.ensures in
    let e = c.act.ensures in
    let l : Live = record (live_of c.self.inside) { flow = flow_in c.wake.new.history } in
    let is : l ≡ c.args.self.now = woken c.self.inside _ c.args.self.now c.in_ok-wake.ensures c.self.view_is in
    acted_live l c.args.self.now (flow_in c.act.new.self) (Core c.args.core) c.args.tick
    (calls.Rx c.args.frame (seg_of c.args.seg.now)) [] c.is_some.result c.in_ok-answer.answer is
    c.is_some.ensures
    (acted c.wake.new.history c.act.new.self (Core c.args.core) c.args.tick
    (calls.Rx c.args.frame (seg_of c.args.seg.now)) [] c.in_ok-answer.answer e.id e.tuple e.params a.exact a.unmade)

pub returns-clause-taken : goal.returns-clause-taken
returns-clause-taken c =
    let l : Live = record (live_of c.self.inside) { flow = flow_in c.wake.new.history } in
    let is : l ≡ c.args.self.now = woken c.self.inside _ c.args.self.now c.in_ok-wake.ensures c.self.view_is in
    c.is_some.ensures
    ∙ (fast_answers c.in_ok-answer.answer _ (endpoint l) c.args.seg.now
    c.parts-parts.ensures.phase c.in_ok-answer.ensures.serves
    ∙ ap (λ (m : Live). is_fast (endpoint m) (seg_of c.args.seg.now)) is)
