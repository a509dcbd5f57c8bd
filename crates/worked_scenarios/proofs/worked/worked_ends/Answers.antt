use Rattle.worked_scenarios.proofs.WorkedEnds.{unanswered_is, killed_late_is, killed_after_is}
use Rattle.worked_scenarios.proofs.WorkedEnds.{slot_kept_is, stalled_is, cut_short_is, open_flows_is}
use Rattle.worked_scenarios.proofs.WorkedEnds.{no_such_byte_is, all_steps_is}
use Rattle.worked_scenarios.proofs.worked.worked_ends.Goals as goal

pub returns-clause-unanswered : goal.returns-clause-unanswered
returns-clause-unanswered c = unanswered_is

pub returns-clause-killed_late : goal.returns-clause-killed_late
returns-clause-killed_late c = killed_late_is

pub returns-clause-killed_after : goal.returns-clause-killed_after
returns-clause-killed_after c = killed_after_is

pub returns-clause-slot_kept : goal.returns-clause-slot_kept
returns-clause-slot_kept c = slot_kept_is

pub returns-clause-stalled : goal.returns-clause-stalled
returns-clause-stalled c = stalled_is

pub returns-clause-cut_short : goal.returns-clause-cut_short
returns-clause-cut_short c = cut_short_is

pub returns-clause-open_flows : goal.returns-clause-open_flows
returns-clause-open_flows c = open_flows_is

pub returns-clause-no_such_byte : goal.returns-clause-no_such_byte
returns-clause-no_such_byte c = no_such_byte_is

pub returns-clause-all_steps : goal.returns-clause-all_steps
returns-clause-all_steps c = all_steps_is
