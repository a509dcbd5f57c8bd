use Rattle.std.proofs.Common.{ap, sym, ◌∙◌, subst}
use Rattle.tas_model.specs.declared.entry.FourTuple.{FourTuple}
use Rattle.segment_fields.specs.Text.{IsText, refusal}
use Rattle.slow_worker.specs.Workers.{Worker, sight_of, setting_of, flow_with, HasItsPin, IsSound}
use Rattle.slow_worker.proofs.Entries.{taken_so}
use Rattle.slow_worker.proofs.Keeping.{found_pinned}
use Rattle.slow_worker.proofs.worker.SlowWorker.frame.Goals as goal

pub enter-requires-clause-pinned : goal.enter-requires-clause-pinned
enter-requires-clause-pinned g c =
    let kept = subst (λ (w : Worker). IsSound c.args.shared.now.table (sight_of w)) (sym c.self.view_is) c.requires.kept
    in
    let pinned = found_pinned _ c.in-Some.flow c.self.inside.flows.list c.self.inside.pins.list
    (sym c.find.ensures ∙ c.in-Some.is) kept.0.known in
    subst (λ (w : Worker). HasItsPin w.pins c.in-Some.flow) c.self.view_is pinned

pub returns-in-Some-clause-served : goal.returns-in-Some-clause-served
returns-in-Some-clause-served g c =
    let ns = g.N.NumberSource.number c.args.numbers.now in
    taken_so c.enter.result (setting_of ns c.args.shared.now c.args.tick c.args.self.now) c.args.id c.args.packet.now
    c.in-Ok.seg c.in-Some.flow (sight_of c.args.self.now) (sight_of c.enter.new.self)
    (ap (λ (w : Worker). refusal w.check_sums c.args.packet.now) (sym c.self.view_is)
    ∙ (ap (refusal c.self.inside.check_sums) (sym c.as_slice.ensures) ∙ c.in-Ok.ensures.accepted))
    (subst (λ bs. IsText bs c.in-Ok.seg) c.as_slice.ensures c.in-Ok.ensures.text)
    (ap (λ (t : FourTuple). flow_with t c.args.self.now.flows) (sym c.tuple_of.ensures)
    ∙ (ap (λ (w : Worker). flow_with c.tuple_of.result w.flows) (sym c.self.view_is)
    ∙ (sym c.find.ensures ∙ c.in-Some.is)))
    (c.enter.ensures.entered ns)
