use Rattle.std.proofs.Common.{rules, ◌≡◌, ℕ, List, Some, IfOk, IfErr, subst}
use Rattle.host_rounds.specs.Cores.{CoresBelow}
use Rattle.tas_round.specs.Runs.{log_in}
use Rattle.tas_round.specs.declared.logs.RunLog as code
use Rattle.program_words.specs.Requests.{request_in}
use Rattle.tas_top.specs.Runs.{IsRun, IsRunOf}
use Rattle.tas_top.specs.Stops.{Unrun}
use Rattle.tas_top.proofs.Causes.{both_ok, is_run_on_cores}
use Rattle.tas_top.proofs.runs.run_on_cores.Goals as goal

pub returns : goal.returns
returns g c =
    let r = request_in c.args.job.now.asked in
    let bytes = c.args.job.now.bytes.items in
    let made = c.run_on.result in
    let cores : r.cores ≡ Some c.in-Some.count = search rules in
    let ok : IfOk made (λ (log : code.RunLog). IsRunOf r.input bytes (log_in log)) =
    subst (λ (b : List ℕ). IfOk made (λ (log : code.RunLog). IsRunOf r.input b (log_in log)))
    c.deref.ensures.value c.run_on.ensures.ok in
    let refused : IfErr made (Unrun r.input bytes) =
    subst (λ (b : List ℕ). IfErr made (Unrun r.input b)) c.deref.ensures.value c.run_on.ensures.refused in
    record {
      run = both_ok made (λ (log : code.RunLog). IsRunOf r.input bytes (log_in log))
          (λ (log : code.RunLog). CoresBelow c.in-Some.count (log_in log).hosts)
          (λ (log : code.RunLog). IsRun r bytes (log_in log))
          (λ log run low. is_run_on_cores r c.in-Some.count bytes (log_in log) c.requires.fit.clients cores run low) ok
          c.run_on.ensures.below;
      refused = refused;
    }
