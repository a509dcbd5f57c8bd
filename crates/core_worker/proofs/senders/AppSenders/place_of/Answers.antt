use Rattle.std.proofs.Common.{ap, ◌∙◌, position}
use Rattle.app_reaper.specs.Numbers.{is_number}
use Rattle.app_reaper.proofs.Places.{position_of}
use Rattle.core_worker.specs.Telling.{app_of, is_sender_for}
use Rattle.core_worker.proofs.senders.AppSenders.place_of.Goals as goal

pub returns : goal.returns
returns c =
    c.place_of.ensures
    ∙ (ap (position (is_number c.args.app)) c.self.invariant
    ∙ (position_of (is_number c.args.app) app_of c.self.inside.senders.items
    ∙ ap (position (is_sender_for c.args.app)) c.self.view_is))
