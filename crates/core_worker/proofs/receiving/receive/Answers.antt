use Rattle.std.proofs.Common.{◌≡◌, ap, sym, subst}
use Rattle.std.specs.Prelude.{IfOk, OnErr}
use Rattle.tas_model.specs.declared.entry.FlowId.{FlowId}
use Rattle.app_reaper.specs.OneCall.{IsCallRefused}
use Rattle.app_reaper.specs.declared.one_call.CallFault.TheVariants.{OutOfMemory}
use Rattle.flow_lock.specs.Callers.{IsUser}
use Rattle.flow_lock.specs.Passes.{Seen}
use Rattle.flow_lock.specs.Steps.{unpinned}
use Rattle.flow_lock.proofs.Calling.{guest_pins, user_leaves}
use Rattle.core_worker.specs.Receiving.{IsTried}
use Rattle.core_worker.proofs.Records.{received, unreceived}
use Rattle.core_worker.proofs.receiving.receive.Goals as goal

pub offer-handled-requires-clause-pass : goal.offer-handled-requires-clause-pass
offer-handled-requires-clause-pass g c =
    let p = c.in-Ok.ensures.pinned in
    let s = c.args.pass.now in
    let user = guest_pins _ c.args.flow s c.pin.new.pass c.pin.ensures.table p.1 c.requires.pass in
    subst (λ (f : FlowId). IsUser c.args.shared.now.table f c.pin.new.pass) (sym p.0) user

pub returns-clause-pass : goal.returns-clause-pass
returns-clause-pass g c =
    user_leaves _ _ c.offer-handled.new.pass c.unpin.new.pass c.unpin.ensures c.offer-handled.ensures.pass

pub returns-clause-received : goal.returns-clause-received
returns-clause-received g c =
    let p = c.in-Ok.ensures.pinned in
    let v = c.args.pass.now.view in
    let m = c.pin.new.pass.view in
    let q = c.offer-handled.new.pass.view in
    let w = c.unpin.new.pass.view in
    let queues = c.args.shared.now.queues in
    let ss = c.args.senders.now in
    let ts = c.offer-handled.new.senders in
    let gone : w ≡ unpinned c.args.flow q =
    subst (λ (f : FlowId). w ≡ unpinned f q) p.0 (ap (λ (s : Seen). s.view) c.unpin.ensures) in
    let tried : IfOk c.offer-handled.result
    (IsTried queues c.args.duty.core c.args.duty.tick c.args.frame c.args.seg.now c.args.flow m q ss ts) =
    subst (λ (f : FlowId). IfOk c.offer-handled.result
    (IsTried queues c.args.duty.core c.args.duty.tick c.args.frame c.args.seg.now f m q ss ts)) p.0
    c.offer-handled.ensures.tried in
    received queues _ _ _ _ c.args.flow v m q w ss ts c.offer-handled.result p.1 gone tried

pub returns-clause-full : goal.returns-clause-full
returns-clause-full g c =
    let p = c.in-Ok.ensures.pinned in
    let v = c.args.pass.now.view in
    let m = c.pin.new.pass.view in
    let q = c.offer-handled.new.pass.view in
    let w = c.unpin.new.pass.view in
    let gone : w ≡ unpinned c.args.flow q =
    subst (λ (f : FlowId). w ≡ unpinned f q) p.0 (ap (λ (s : Seen). s.view) c.unpin.ensures) in
    let full : OnErr c.offer-handled.result (IsCallRefused c.args.flow m q OutOfMemory) =
    subst (λ (f : FlowId). OnErr c.offer-handled.result (IsCallRefused f m q OutOfMemory)) p.0
    c.offer-handled.ensures.full in
    unreceived c.args.flow v m q w c.offer-handled.result p.1 gone full
