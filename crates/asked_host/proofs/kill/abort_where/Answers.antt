use Rattle.std.proofs.Common.{Bool, ap, ◌∙◌}
use Rattle.host_rounds.specs.Hosts.{at_flow}
use Rattle.scenario_runs.specs.Applications.{aborted_where}
use Rattle.asked_host.proofs.Aborting.{aborted_not}
use Rattle.asked_host.proofs.kill.abort_where.Goals as goal

pub returns-else-is_concerned : goal.returns-else-is_concerned
returns-else-is_concerned c = λ l here.
    aborted_not c.args.place c.args.tick c.args.host.now
    ∙ ap (λ (concerned : Bool). at_flow c.args.place (aborted_where concerned c.args.tick) c.args.host.now)
    (c.if-is_concerned.ensures l here)
