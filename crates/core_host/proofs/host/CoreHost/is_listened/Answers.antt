-- Answers of the proof of host/CoreHost/is_listened.
use Rattle.std.proofs.Common.{ap, ◌∙◌}
use Rattle.core_host.specs.Views.{staffed_in}
use Rattle.core_host.proofs.Listening.{hears_as}
use Rattle.core_host.proofs.host.CoreHost.is_listened.Goals as goal

pub returns : goal.returns
returns c =
    hears_as _ _ c.args.port _ (ap staffed_in c.self-inside.view_is ∙ c.self.view_is) c.listening.ensures
