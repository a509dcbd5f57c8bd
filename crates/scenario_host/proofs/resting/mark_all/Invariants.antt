use Rattle.scenario_host.proofs.Rests.{Marking}
use Rattle.scenario_host.proofs.resting.mark_all.Given as goal

-- all so far are marked, and those that are awake are listed
abbrev pub invariant-loop-place : goal.invariant-loop-place
invariant-loop-place l = Marking l.turns l.place l.asleep.items l.awake.items l.scripts
