use Rattle.flow_state.proofs.Pacing.{Passed}
use Rattle.flow_state.proofs.paced.PacedRun.entry.Given as goal

abbrev pub invariant-loop-entry : goal.invariant-loop-entry
invariant-loop-entry l = Passed l.self l.runs l.j l.left

abbrev pub decreases-loop-entry : goal.decreases-loop-entry
decreases-loop-entry l = l.runs.more
