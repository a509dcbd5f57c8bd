use Rattle.flow_clock.proofs.Runs.{timed_alike, untimed}
use Rattle.flow_clock.proofs.laws.time_passes_as_in_a_run.Goals as goal

pub returns-clause-timed : goal.returns-clause-timed
returns-clause-timed c = timed_alike

pub returns-clause-closed : goal.returns-clause-closed
returns-clause-closed c = untimed
