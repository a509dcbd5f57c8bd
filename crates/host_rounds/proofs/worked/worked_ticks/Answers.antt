use Rattle.host_rounds.proofs.WorkedTicks.{visited_is, visited_log_is, crowded_is, crowded_ids_are, crowded_log_is}
use Rattle.host_rounds.proofs.worked.worked_ticks.Goals as goal

pub returns-clause-visited : goal.returns-clause-visited
returns-clause-visited c = visited_is

pub returns-clause-visited_log : goal.returns-clause-visited_log
returns-clause-visited_log c = visited_log_is

pub returns-clause-crowded : goal.returns-clause-crowded
returns-clause-crowded c = crowded_is

pub returns-clause-crowded_ids : goal.returns-clause-crowded_ids
returns-clause-crowded_ids c = crowded_ids_are

pub returns-clause-crowded_log : goal.returns-clause-crowded_log
returns-clause-crowded_log c = crowded_log_is
