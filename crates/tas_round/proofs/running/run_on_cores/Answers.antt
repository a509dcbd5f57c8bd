use Rattle.std.proofs.Common.{◌≡◌, sym, subst}
use Rattle.std.proofs.lemmas.Result.{IfOk-weaker}
use Rattle.host_rounds.specs.Logs.{RunLog}
use Rattle.host_rounds.specs.Cores.{CoresBelow}
use Rattle.scenario_runs.specs.Runs.{Run}
use Rattle.scenario_world.specs.Ends as left
use Rattle.tas_round.specs.Runs.{log_in}
use Rattle.tas_round.proofs.running.run_on_cores.Goals as goal

pub returns : goal.returns
returns g c =
    let s = c.args.s.now in
    record {
      run = IfOk-weaker c.log_of.result (λ log. log_in log ≡ left.log_of s c.in_ok-end.end) (λ log. Run s (log_in log))
          (λ log same. subst (λ r. Run s r) (sym same) c.in_ok-end.ensures.run) c.log_of.ensures;
      below = IfOk-weaker c.log_of.result (λ log. log_in log ≡ left.log_of s c.in_ok-end.end)
          (λ log. CoresBelow c.args.count (log_in log).hosts)
          (λ log same. subst (λ (r : RunLog). CoresBelow c.args.count r.hosts) (sym same) c.in_ok-end.ensures.below)
          c.log_of.ensures;
    }
