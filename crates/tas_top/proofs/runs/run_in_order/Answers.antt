use Rattle.std.proofs.Common.{rules, ◌≡◌, ℕ, List, None, IfOk, IfErr, subst}
use Rattle.tas_round.specs.Runs.{log_in}
use Rattle.tas_round.specs.declared.logs.RunLog as code
use Rattle.program_words.specs.Requests.{request_in}
use Rattle.tas_top.specs.Runs.{IsRun, IsSerialRun}
use Rattle.tas_top.specs.Stops.{Unrun}
use Rattle.tas_top.proofs.Causes.{if_ok, is_run_serially}
use Rattle.tas_top.proofs.runs.run_in_order.Goals as goal

pub returns : goal.returns
returns c =
    let r = request_in c.args.job.now.asked in
    let bytes = c.args.job.now.bytes.items in
    let made = c.serial_run_of.result in
    let none : r.cores ≡ None = search rules in
    let ok : IfOk made (λ (log : code.RunLog). IsSerialRun r.input bytes (log_in log)) =
    subst (λ (b : List ℕ). IfOk made (λ (log : code.RunLog). IsSerialRun r.input b (log_in log)))
    c.deref.ensures.value c.serial_run_of.ensures.ok in
    let refused : IfErr made (Unrun r.input bytes) =
    subst (λ (b : List ℕ). IfErr made (Unrun r.input b)) c.deref.ensures.value c.serial_run_of.ensures.refused in
    record {
      run = if_ok made (λ (log : code.RunLog). IsSerialRun r.input bytes (log_in log))
          (λ (log : code.RunLog). IsRun r bytes (log_in log))
          (λ log serial. is_run_serially r bytes (log_in log) c.requires.fit.clients none serial) ok;
      refused = refused;
    }
