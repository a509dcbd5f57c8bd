use Rattle.std.proofs.Common.{◌≡◌, sym, subst, ◌∙◌}
use Rattle.host_rounds.specs.Logs.{RunLog}
use Rattle.host_rounds.specs.Cores.{CoresBelow}
use Rattle.scenario_runs.specs.Runs.{Run, serial_run}
use Rattle.scenario_runs.proofs.AllBelow.{serial_run_low}
use Rattle.tas_round.specs.Runs.{log_in}
use Rattle.tas_round.proofs.running.run_serially.Goals as goal

pub returns-clause-run : goal.returns-clause-run
returns-clause-run c =
    let same : serial_run c.args.s.now ≡ log_in c.in_ok-log.log = c.in_ok-end.ensures.run ∙ sym c.in_ok-log.ensures in
    subst (λ (log : RunLog). Run c.args.s.now log) same (c.serial_order_is_right.ensures c.args.s.now)

pub returns-clause-below : goal.returns-clause-below
returns-clause-below c =
    let same : serial_run c.args.s.now ≡ log_in c.in_ok-log.log = c.in_ok-end.ensures.run ∙ sym c.in_ok-log.ensures in
    subst (λ (log : RunLog). CoresBelow 1 log.hosts) same (serial_run_low c.args.s.now)
