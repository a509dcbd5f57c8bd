use Rattle.std.proofs.Common.{◌∙◌, ap}
use Rattle.std.specs.Prelude.{is_some}
use Rattle.libtas_sockets.proofs.Pins.{is_placed}
use Rattle.libtas_sockets.proofs.pinning.is_slot_in_use.Goals as goal

pub returns : goal.returns
returns c =
    c.is_some.ensures ∙ (ap is_some c.place_of.ensures ∙ is_placed c.args.id.slot c.args.sockets.now.list)
