use Rattle.audited_runs.proofs.WorkedAudits.{hello_counts, killed_early_counts, hello_legal}
use Rattle.audited_runs.proofs.worked.worked_audits.Goals as goal

pub returns-clause-hello : goal.returns-clause-hello
returns-clause-hello c = hello_counts

pub returns-clause-killed_early : goal.returns-clause-killed_early
returns-clause-killed_early c = killed_early_counts

pub returns-clause-legal : goal.returns-clause-legal
returns-clause-legal c = hello_legal
