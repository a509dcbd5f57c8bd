use Rattle.std.proofs.Common.{◌≡◌, ap, sym, ◌∙◌, subst, ◌++◌}
use Rattle.core_worker.specs.Kicks.{one_kick}
use Rattle.slow_worker.specs.Entering.{IsOffered}
use Rattle.slow_worker.specs.Workers.{Worker, Sight, sight_of, setting_of, HasItsPin, IsSound}
use Rattle.slow_worker.specs.contracts.worker.SlowWorker.{the_view}
use Rattle.slow_worker.specs.Entering.{IsEntered, IsUnentered}
use Rattle.slow_worker.specs.declared.entering.Offered.{Offered}
use Rattle.slow_worker.specs.declared.served.Served.TheVariants as served
use Rattle.tas_model.specs.declared.entry.FlowId.{FlowId}
use Rattle.slow_worker.proofs.Keeping.{has_place, place_of_pin}
use Rattle.slow_worker.proofs.Entries.{kept_so, kept_unentered, entered_so, busy_so, unentered_so}
use Rattle.slow_worker.proofs.Serving.{err_of}
use Rattle.slow_worker.proofs.worker.SlowWorker.enter.Goals as goal

pub unreachable-requires : goal.unreachable-requires
unreachable-requires g c =
    let pinned = subst (λ (w : Worker). HasItsPin w.pins c.args.id) (sym c.self.view_is) c.requires.pinned in
    has_place c.self.inside.pins.list c.args.id pinned (sym c.place_of.ensures ∙ c.in_default.is)

pub returns-in_err-offered-clause-kept : goal.returns-in_err-offered-clause-kept
returns-in_err-offered-clause-kept g c =
    let kept = subst (λ (w : Worker). IsSound c.args.shared.now.table (sight_of w)) (sym c.self.view_is) c.requires.kept
    in
    kept_unentered c.args.shared.now.table c.pin-pin.result.now (sight_of (the_view c.self.inside)) c.offer.new.pass
    c.offer.new.path c.offer.ensures.table c.in_err-offered.ensures.refused c.in_err-offered.ensures.untold kept

pub returns-in_err-offered-clause-unentered : goal.returns-in_err-offered-clause-unentered
returns-in_err-offered-clause-unentered g c =
    let kept = subst (λ (w : Worker). IsSound c.args.shared.now.table (sight_of w)) (sym c.self.view_is) c.requires.kept
    in
    let pinned = subst (λ (w : Worker). HasItsPin w.pins c.args.id) (sym c.self.view_is) c.requires.pinned in
    let p : FlowId = c.pin-pin.result.now in
    let named : p ≡ c.args.id =
    place_of_pin c.args.shared.now.table _ _ _ _ c.args.id p c.in-Some.at kept.0 pinned
    (sym c.place_of.ensures ∙ c.in-Some.is) c.pin-pin.ensures in
    let u : Worker = the_view c.self.inside in
    let s : Sight = sight_of u in
    let pass = c.offer.new.pass in
    let path = c.offer.new.path in
    err_of _ (subst (λ (y : Worker). IsUnentered c.args.id (sight_of y)
    (record s { path = path; pass = pass; kicks = c.reserve.new.self.list })) c.self.view_is
    (unentered_so c.args.id p s pass path c.reserve.new.self.list named c.offer.ensures.table
    c.in_err-offered.ensures.refused c.in_err-offered.ensures.untold c.reserve.ensures.list))
    c.from_residual-in_err-offered.result

pub returns-in-Busy-clause-kept : goal.returns-in-Busy-clause-kept
returns-in-Busy-clause-kept g c =
    let kept = subst (λ (w : Worker). IsSound c.args.shared.now.table (sight_of w)) (sym c.self.view_is) c.requires.kept
    in
    let u : Worker = the_view c.self.inside in
    let s : Sight = sight_of u in
    let pass = c.offer.new.pass in
    let path = c.offer.new.path in
    kept_so c.args.shared.now.table c.args.tick c.args.frame c.args.seg.now c.pin-pin.result.now s pass path
    c.in_ok-offered.offered c.offer.ensures.table c.in_ok-offered.ensures.offered kept

pub returns-in-Entered-clause-kept : goal.returns-in-Entered-clause-kept
returns-in-Entered-clause-kept g c =
    let kept = subst (λ (w : Worker). IsSound c.args.shared.now.table (sight_of w)) (sym c.self.view_is) c.requires.kept
    in
    let u : Worker = the_view c.self.inside in
    let s : Sight = sight_of u in
    let pass = c.offer.new.pass in
    let path = c.offer.new.path in
    kept_so c.args.shared.now.table c.args.tick c.args.frame c.args.seg.now c.pin-pin.result.now s pass path
    c.in_ok-offered.offered c.offer.ensures.table c.in_ok-offered.ensures.offered kept

pub returns-in-Busy-clause-entered : goal.returns-in-Busy-clause-entered
returns-in-Busy-clause-entered g c ns =
    let kept = subst (λ (w : Worker). IsSound c.args.shared.now.table (sight_of w)) (sym c.self.view_is) c.requires.kept
    in
    let pinned = subst (λ (w : Worker). HasItsPin w.pins c.args.id) (sym c.self.view_is) c.requires.pinned in
    let p : FlowId = c.pin-pin.result.now in
    let named : p ≡ c.args.id =
    place_of_pin c.args.shared.now.table _ _ _ _ c.args.id p c.in-Some.at kept.0 pinned
    (sym c.place_of.ensures ∙ c.in-Some.is) c.pin-pin.ensures in
    let u : Worker = the_view c.self.inside in
    let s : Sight = sight_of u in
    let pass = c.offer.new.pass in
    let path = c.offer.new.path in
    let done = subst (λ (x : Offered). IsOffered c.args.tick c.args.frame c.args.seg.now p u.path path u.pass.view
    pass.view x) c.in-Busy.is c.in_ok-offered.ensures.offered in
    subst (λ (y : Worker). IsEntered
    (setting_of ns c.args.shared.now c.args.tick y) c.args.frame c.args.seg.now c.args.id
    (sight_of y) (record s { path = path; pass = pass; kicks = c.reserve.new.self.list }) (served.Busy c.in-Busy.word))
    c.self.view_is
    (busy_so (setting_of ns c.args.shared.now c.args.tick u) c.args.frame c.args.seg.now c.args.id p s pass path
    c.reserve.new.self.list c.in-Busy.word named c.offer.ensures.table c.reserve.ensures.list done)

pub returns-in-Entered-clause-entered : goal.returns-in-Entered-clause-entered
returns-in-Entered-clause-entered g c ns =
    let kept = subst (λ (w : Worker). IsSound c.args.shared.now.table (sight_of w)) (sym c.self.view_is) c.requires.kept
    in
    let pinned = subst (λ (w : Worker). HasItsPin w.pins c.args.id) (sym c.self.view_is) c.requires.pinned in
    let p : FlowId = c.pin-pin.result.now in
    let named : p ≡ c.args.id =
    place_of_pin c.args.shared.now.table _ _ _ _ c.args.id p c.in-Some.at kept.0 pinned
    (sym c.place_of.ensures ∙ c.in-Some.is) c.pin-pin.ensures in
    let u : Worker = the_view c.self.inside in
    let s : Sight = sight_of u in
    let pass = c.offer.new.pass in
    let path = c.offer.new.path in
    let b = c.in-Entered.brought in
    let senders = c.tell.new.self in
    let kicks = c.put_some.new.self.list in
    let done = subst (λ (x : Offered). IsOffered c.args.tick c.args.frame c.args.seg.now p u.path path u.pass.view
    pass.view x) c.in-Entered.is c.in_ok-offered.ensures.offered in
    subst (λ (y : Worker). IsEntered
    (setting_of ns c.args.shared.now c.args.tick y) c.args.frame c.args.seg.now c.args.id
    (sight_of y) (record s { path = path; pass = pass; senders = senders; kicks = kicks }) (served.Entered c.args.id))
    c.self.view_is
    (entered_so (setting_of ns c.args.shared.now c.args.tick u) c.args.frame c.args.seg.now c.args.id p s pass path
    senders
    kicks b named c.offer.ensures.table done c.tell.ensures.told
    (c.put_some.ensures.list ∙ ap (λ l. l ++ one_kick b.kick) c.reserve.ensures.list))
