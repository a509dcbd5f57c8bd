use Rattle.std.proofs.Common.{◌≡◌}
use Rattle.scenario_host.proofs.Rests.{both}
use Rattle.scenario_host.proofs.resting.count_turns.Given as goal

-- the turns of the scripts before this one are counted
abbrev pub invariant-loop-place : goal.invariant-loop-place
invariant-loop-place l = l.script-items ≡ both l.passed 0 l.place l.asleep l.fn.scripts.items
