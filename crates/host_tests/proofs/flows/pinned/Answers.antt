use Rattle.std.proofs.Common.{◌<◌, sym, subst}
use Rattle.tas_model.specs.declared.entry.FlowId.{FlowId}
use Rattle.flow_lock.specs.Callers.{IsUser}
use Rattle.flow_lock.proofs.Calling.{guest_pins, user_leaves}
use Rattle.host_tests.proofs.flows.pinned.Goals as goal

pub taken-seen-requires-clause-pass : goal.taken-seen-requires-clause-pass
taken-seen-requires-clause-pass g c =
    let pinned = c.in-Ok.ensures.pinned in
    let user = guest_pins _ _ c.args.pass.now c.pin.new.pass c.pin.ensures.table pinned.1 c.requires.pass.0 in
    subst (λ (f : FlowId). IsUser c.args.table.now f c.pin.new.pass × (f.slot < c.args.table.now.slots)) (sym pinned.0)
    (user, c.requires.pass.1)

pub returns : goal.returns
returns g c = user_leaves _ _ c.taken-seen.new.pass c.unpin.new.pass c.unpin.ensures c.taken-seen.ensures
