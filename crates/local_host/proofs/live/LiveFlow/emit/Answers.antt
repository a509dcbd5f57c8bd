use Rattle.std.proofs.Common.{◌≡◌, [], ap, subst, sym, ◌∙◌}
use Rattle.tas_model.specs.declared.entry.Caller.TheVariants.{Core}
use Rattle.tas_model.specs.declared.entry.Call.TheVariants as calls
use Rattle.host_rounds.specs.Hosts.{Live}
use Rattle.host_rounds.specs.Upkeep.{quieted}
use Rattle.local_host.specs.Live.{flow_in, IsNext}
use Rattle.local_host.specs.Inside.{live_of}
use Rattle.local_host.proofs.Acting.{acted}
use Rattle.local_host.proofs.Waking.{woken}
use Rattle.local_host.proofs.Emitting.{emission_next, emission_last}
use Rattle.local_host.proofs.live.LiveFlow.emit.Goals as goal

pub returns-clause-next : goal.returns-clause-next
returns-clause-next c = λ some.
    let a = c.in_ok-answer.ensures in
    let e = c.act.ensures in
    let p = c.parts-parts.ensures in
    let l : Live = record (live_of c.self.inside) { flow = flow_in c.wake.new.history } in
    let is : l ≡ c.args.self.now = woken c.self.inside _ c.args.self.now c.in_ok-wake.ensures c.self.view_is in
    let made = acted c.wake.new.history c.act.new.self (Core 0) c.args.tick calls.Emit [] c.in_ok-answer.answer e.id
    e.tuple e.params a.exact a.unmade in
    subst (λ (m : Live). IsNext c.args.tick m (record l { flow = flow_in c.act.new.self })) is
    (emission_next c.args.tick l (flow_in c.act.new.self) _ c.in_ok-answer.answer p.ranges p.legal p.stands a.serves
    made (sym c.is_some.ensures ∙ some))

pub returns-clause-done : goal.returns-clause-done
returns-clause-done c = λ none.
    let a = c.in_ok-answer.ensures in
    let e = c.act.ensures in
    let p = c.parts-parts.ensures in
    let l : Live = record (live_of c.self.inside) { flow = flow_in c.wake.new.history } in
    let is : l ≡ c.args.self.now = woken c.self.inside _ c.args.self.now c.in_ok-wake.ensures c.self.view_is in
    let made = acted c.wake.new.history c.act.new.self (Core 0) c.args.tick calls.Emit [] c.in_ok-answer.answer e.id
    e.tuple e.params a.exact a.unmade in
    emission_last c.args.tick l (flow_in c.act.new.self) _ c.in_ok-answer.answer p.ranges p.legal p.stands a.serves made
    (sym c.is_some.ensures ∙ none) ∙ ap (quieted c.args.tick) is
