use Rattle.std.proofs.Common.{sym, ◌∙◌}
use Rattle.local_host.proofs.Emitting.{all_is_sent}
use Rattle.local_host.proofs.live.LiveFlow.send_all.Goals as goal

pub returns-then-not-may_send : goal.returns-then-not-may_send
returns-then-not-may_send c =
    sym (all_is_sent c.args.tick c.args.self.now (sym c.may_send.ensures ∙ c.if-not-may_send.true))
