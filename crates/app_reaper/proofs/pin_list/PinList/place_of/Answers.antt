use Rattle.std.proofs.Common.{ap, ◌∙◌, position}
use Rattle.tas_model.specs.declared.entry.FlowId.{FlowId}
use Rattle.app_reaper.specs.Lists.{Roomy, is_on, slot_of}
use Rattle.app_reaper.specs.Numbers.{is_number}
use Rattle.app_reaper.proofs.Places.{position_of}
use Rattle.app_reaper.proofs.pin_list.PinList.place_of.Goals as goal

pub returns : goal.returns
returns c =
    c.place_of.ensures
    ∙ (ap (position (is_number c.args.slot)) c.self.invariant.slots_are
    ∙ (position_of (is_number c.args.slot) slot_of c.self.inside.pins.items
    ∙ ap (λ (r : Roomy FlowId). position (is_on c.args.slot) r.list) c.self.view_is))
