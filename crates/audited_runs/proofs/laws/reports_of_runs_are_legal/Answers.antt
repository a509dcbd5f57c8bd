use Rattle.audited_runs.specs.Audited.{audited}
use Rattle.audited_runs.specs.LogLines.{flows_in, entries_in}
use Rattle.audited_runs.proofs.Cutting.{text_ends}
use Rattle.audited_runs.proofs.Whole.{run_legal, run_legal_behind}
use Rattle.audited_runs.proofs.Judged.{one_verdict, never_refused}
use Rattle.audited_runs.proofs.laws.reports_of_runs_are_legal.Goals as goal

pub returns-clause-legal : goal.returns-clause-legal
returns-clause-legal c = run_legal

pub returns-clause-behind : goal.returns-clause-behind
returns-clause-behind c = λ text s log read ends run fits. run_legal_behind text text s log read read
    (text_ends text ends.0 ends.1) run fits

pub returns-clause-found : goal.returns-clause-found
returns-clause-found c = λ text s log read run fits. one_verdict (audited s log) (flows_in log.hosts)
    (entries_in log.hosts) (run_legal text s log read run fits)

pub returns-clause-taken : goal.returns-clause-taken
returns-clause-taken c = λ text s log read run fits number. never_refused (audited s log) (flows_in log.hosts)
    (entries_in log.hosts) number (run_legal text s log read run fits)
