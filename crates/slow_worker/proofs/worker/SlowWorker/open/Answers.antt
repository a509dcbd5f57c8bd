use Rattle.std.proofs.Common.{ap, sym, ◌∙◌, subst, refl, ◌++◌, ◌∷◌, []}
use Rattle.std.specs.Prelude.{◌≡◌, Some}
use Rattle.tas_model.specs.Valid.{InRange}
use Rattle.flow_lock.specs.Answers.{next_in}
use Rattle.app_reaper.specs.OneCall.{history}
use Rattle.slow_handshake.specs.Openings.{Openings}
use Rattle.slow_worker.specs.Workers.{Worker, sight_of, IsSound}
use Rattle.flow_clock.proofs.Serving.{on_err_stopped}
use Rattle.slow_worker.proofs.Keeping.{opened_kept}
use Rattle.slow_worker.proofs.Unopened.{unopened_of}
use Rattle.slow_worker.proofs.worker.SlowWorker.open.Goals as goal

pub returns-clause-kept : goal.returns-clause-kept
returns-clause-kept g c =
    let kept = subst (λ (w : Worker). IsSound c.args.table.now (sight_of w)) (sym c.self.view_is) c.requires.kept in
    let next = subst (λ (w : Worker). next_in w.pass.view.marks ≡ Some c.args.id) (sym c.self.view_is) c.requires.next
    in
    let named = c.open_next.ensures.pin ∙ c.in_ok-flow.ensures.id in
    let params = ap (λ (o : Openings). o.params) c.in_ok-opened.ensures.ok
    ∙ ap (λ (o : Openings). o.params) c.next_iss.ensures.next in
    let after = opened_kept c.args.table.now c.args.id c.in_ok-flow.flow.id (history c.in_ok-flow.flow)
    c.self.inside.pass c.open_next.new.pass c.self.inside.doomed.list c.self.inside.pins.list c.put.new.self.list
    c.self.inside.flows.list c.put-2.new.self.list (record { tuple = c.tuple_of-tuple.result; id = c.args.id }) next
    c.requires.slot (λ i. c.args.id) c.in_ok-flow.ensures.id c.open_next.ensures.opened
    (c.put.ensures.list ∙ (ap (λ l. l ++ c.open_next.result ∷ []) c.reserve.ensures.list
    ∙ ap (λ x. c.self.inside.pins.list ++ x ∷ []) c.open_next.ensures.pin))
    (c.put-2.ensures.list ∙ ap (λ l. l ++ (record { tuple = c.tuple_of-tuple.result; id = c.args.id }) ∷ [])
    c.reserve-2.ensures.list)
    kept.0 in
    (after, subst InRange (sym params) kept.1)

pub returns-in_err-show-clause-unopened : goal.returns-in_err-show-clause-unopened
returns-in_err-show-clause-unopened g c =
    on_err_stopped c.from_residual-in_err-show.result
    (unopened_of c.args.seg.now c.args.id c.tuple_of-tuple.result _ c.args.self.now c.next_iss.new.self
    c.reserve.new.self.list c.reserve-2.new.self.list c.reserve-3.new.self.list _ c.self.view_is
    c.next_iss.ensures.next c.in_ok-reserve.ensures.list c.in_ok-reserve-2.ensures.list
    c.in_ok-reserve-3.ensures.list c.tuple_of-tuple.ensures c.in_err-show.ensures.touched refl)
