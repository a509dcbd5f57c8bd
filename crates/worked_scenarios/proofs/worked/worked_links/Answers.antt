use Rattle.worked_scenarios.proofs.WorkedLinks.{own_host_is, silent_is, one_waits_is}
use Rattle.worked_scenarios.proofs.WorkedHoles.{late_middle_is, two_holes_is}
use Rattle.worked_scenarios.proofs.worked.worked_links.Goals as goal

pub returns-clause-own_host : goal.returns-clause-own_host
returns-clause-own_host c = own_host_is

pub returns-clause-late_middle : goal.returns-clause-late_middle
returns-clause-late_middle c = late_middle_is

pub returns-clause-two_holes : goal.returns-clause-two_holes
returns-clause-two_holes c = two_holes_is

pub returns-clause-silent : goal.returns-clause-silent
returns-clause-silent c = silent_is

pub returns-clause-one_waits : goal.returns-clause-one_waits
returns-clause-one_waits c = one_waits_is
