use Rattle.std.proofs.Common.{◌≡◌, length}
use Rattle.slow_worker.proofs.Moves.{Moving}
use Rattle.core_worker.specs.Workers.{with_exceptions}
use Rattle.slow_worker.proofs.collecting.move_exceptions.Given as goal

abbrev pub invariant-loop-core : goal.invariant-loop-core
invariant-loop-core l =
    Moving l.fn.frames l.frames l.fn.core.exceptions l.core.exceptions
    × (l.core ≡ with_exceptions l.core.exceptions l.fn.core)

abbrev pub decreases-loop-core : goal.decreases-loop-core
decreases-loop-core l = length l.core.exceptions
