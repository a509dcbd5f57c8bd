use Rattle.std.proofs.Common.{◌≡◌, ◌<◌, ◌+◌, refl, sym, subst, arith, length}
use Rattle.std.specs.Prelude.{Some, slice_get}
use Rattle.std.proofs.lemmas.Option.{slice_get_read}
use Rattle.tas_model.specs.declared.entry.FlowId.{FlowId}
use Rattle.app_reaper.specs.Lists.{Roomy}
use Rattle.app_reaper.proofs.Places.{slots_less}
use Rattle.app_reaper.proofs.pin_list.PinList.remove.Goals as goal

pub invariant_of-self : goal.invariant_of-self
invariant_of-self c =
    let before = c.self.inside.pins.ok.0 in
    let after = c.remove-2.new.self.ok.0 in
    let fewer : length c.remove-2.new.self.items + 1 ≡ length c.self.inside.pins.items =
    let len = c.remove-2.ensures.len in omega (arith, before, after, len) in
    slots_less c.self.inside.pins.items c.remove-2.new.self.items c.args.i _ _ c.self.inside.slots c.remove.new.self
    c.self.invariant c.remove.ensures.list c.remove.ensures.spare c.remove-2.ensures.items fewer
    c.remove-2.ensures.capacity

pub returns-clause-pin : goal.returns-clause-pin
returns-clause-pin c =
    let within : c.args.i < length c.self.inside.pins.items =
    subst (λ (r : Roomy FlowId). c.args.i < length r.list) (sym c.self.view_is) c.requires in
    subst (λ (r : Roomy FlowId). slice_get r.list c.args.i ≡ Some c.remove-2.result) c.self.view_is
    (slice_get_read c.self.inside.pins.items (length c.self.inside.pins.items) c.args.i c.remove-2.result refl
    within c.remove-2.ensures.value)
