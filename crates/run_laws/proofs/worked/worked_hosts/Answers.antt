use Rattle.run_laws.proofs.Computed.{filled_log_is, filled_ids_are}
use Rattle.run_laws.proofs.worked.worked_hosts.Goals as goal

pub returns-clause-log : goal.returns-clause-log
returns-clause-log c = filled_log_is

pub returns-clause-ids : goal.returns-clause-ids
returns-clause-ids c = filled_ids_are
