use Rattle.scenario_runs.proofs.WorkedRuns.{hello_is, damaged_is, killed_early_is, one_slot_is}
use Rattle.scenario_runs.proofs.worked.worked_runs.Goals as goal

pub returns-clause-hello : goal.returns-clause-hello
returns-clause-hello c = hello_is

pub returns-clause-damaged : goal.returns-clause-damaged
returns-clause-damaged c = damaged_is

pub returns-clause-killed_early : goal.returns-clause-killed_early
returns-clause-killed_early c = killed_early_is

pub returns-clause-one_slot : goal.returns-clause-one_slot
returns-clause-one_slot c = one_slot_is
