-- Answers of the proof of host/CoreHost/listen.
use Rattle.std.proofs.Common.{Err, ap, ◌∙◌}
use Rattle.core_host.specs.Views.{staffed_in}
use Rattle.core_host.proofs.Listening.{listens_as, never_heard}
use Rattle.core_host.proofs.host.CoreHost.listen.Goals as goal

pub unreachable-requires : goal.unreachable-requires
unreachable-requires c =
    never_heard _ _ c.args.port (ap staffed_in c.self-inside.view_is ∙ c.self.view_is) c.requires.free
    (c.listen.ensures.used.0 (c.in-Err-PortInUse.is ∙ ap Err c.in-Err-PortInUse.field-0-is))

pub returns-in-Ok : goal.returns-in-Ok
returns-in-Ok c =
    listens_as _ _ c.args.app c.args.port _ (ap staffed_in c.self-inside.view_is ∙ c.self.view_is) c.requires.sound
    c.requires.low c.in-Ok.ensures.ok
