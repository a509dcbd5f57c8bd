-- Answers of the proof of host/CoreHost/note.
use Rattle.std.proofs.Common.{ap, ◌∙◌}
use Rattle.core_host.specs.Views.{staffed_in}
use Rattle.core_host.proofs.Listening.{noted_as}
use Rattle.core_host.proofs.Staffs.{both_ok}
use Rattle.core_host.proofs.host.CoreHost.note.Goals as goal

pub returns : goal.returns
returns c =
    both_ok c.add.result
    (λ is _. noted_as _ _ c.args.tick c.args.event c.add.new.self
    (ap staffed_in c.self-inside.view_is ∙ c.self.view_is) c.requires is) c.add.ensures.ok c.add.ensures.ok
