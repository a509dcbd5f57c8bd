-- Answers of the proof of starting/at_start.
use Rattle.std.proofs.Common.{◌≡◌, ◌∙◌}
use Rattle.shared_world.proofs.Started.{is_start}
use Rattle.shared_world.proofs.starting.at_start.Goals as goal

pub returns : goal.returns
returns g c =
    is_start c.args.s.now c.args.cores _ c.in_ok-hosts.ensures c.in_ok-scripts.ensures c.in_ok-traffic.ensures
