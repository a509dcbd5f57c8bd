use Rattle.scenario_runs.proofs.AllRuns.{rounds_legal}
use Rattle.due_frames.proofs.Worlds.{start_few, rounds_few}
use Rattle.due_frames.proofs.laws.worlds_stay_few.Goals as goal

pub returns-clause-start : goal.returns-clause-start
returns-clause-start c = λ s. start_few s s.hosts

pub returns-clause-kept : goal.returns-clause-kept
returns-clause-kept c = λ s t before after tick. rounds_few s before t 0 before after tick

pub returns-clause-histories : goal.returns-clause-histories
returns-clause-histories c = λ s t before after tick. rounds_legal s before t 0 before after tick
