use Rattle.tas_runs.proofs.WorkedReplays.{hello_is, late_start_is, sending_is, both_ends_is, resets_is, hello_sent_is}
use Rattle.tas_runs.proofs.WorkedReplays.{cut_is}
use Rattle.tas_runs.proofs.worked.worked_replays.Goals as goal

pub returns-clause-hello : goal.returns-clause-hello
returns-clause-hello c = hello_is

pub returns-clause-late_start : goal.returns-clause-late_start
returns-clause-late_start c = late_start_is

pub returns-clause-sending : goal.returns-clause-sending
returns-clause-sending c = sending_is

pub returns-clause-both_ends : goal.returns-clause-both_ends
returns-clause-both_ends c = both_ends_is

pub returns-clause-resets : goal.returns-clause-resets
returns-clause-resets c = resets_is

pub returns-clause-hello_sent : goal.returns-clause-hello_sent
returns-clause-hello_sent c = hello_sent_is

pub returns-clause-cut_short : goal.returns-clause-cut_short
returns-clause-cut_short c = cut_is
