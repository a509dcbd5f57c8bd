-- Measures or invariants of ending/find_filed.
use Rattle.std.proofs.Common.{length}
use Rattle.core_host.proofs.Found.{FiledFrom}
use Rattle.core_host.proofs.ending.find_filed.Given as goal

-- those in front were found
abbrev pub invariant-loop-flow : goal.invariant-loop-flow
invariant-loop-flow l = FiledFrom l.fn.found l.fn.filed.list l.filed.list l.found

abbrev pub decreases-loop-flow : goal.decreases-loop-flow
decreases-loop-flow l = length l.filed.list
