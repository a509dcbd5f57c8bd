use Rattle.std.proofs.Common.{ap, ◌∙◌, position}
use Rattle.app_reaper.specs.Numbers.{is_number}
use Rattle.app_reaper.proofs.Places.{position_of}
use Rattle.core_worker.specs.Telling.{app_with, is_queue_of}
use Rattle.core_worker.specs.Workers.{Common}
use Rattle.core_worker.proofs.shared.Shared.place_of.Goals as goal

pub returns : goal.returns
returns c =
    c.place_of.ensures
    ∙ (ap (position (is_number c.args.app)) c.self.invariant
    ∙ (position_of (is_number c.args.app) app_with c.self.inside.queues.items
    ∙ ap (λ (k : Common). position (is_queue_of c.args.app) k.queues) c.self.view_is))
