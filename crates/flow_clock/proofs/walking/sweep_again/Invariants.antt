use Rattle.flow_clock.proofs.Sweeping.{Sweeping}
use Rattle.flow_clock.proofs.walking.sweep_again.Given as goal

abbrev pub invariant-loop-left : goal.invariant-loop-left
invariant-loop-left l =
    Sweeping l.table l.fn.slow l.fn.doomed.list l.fn.filed.list l.slow l.doomed.list l.filed.list l.left

abbrev pub decreases-loop-left : goal.decreases-loop-left
decreases-loop-left l = l.left
