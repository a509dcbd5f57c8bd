-- Measures or invariants of ending/in_order.
use Rattle.core_host.proofs.Found.{AreTaken}
use Rattle.core_host.proofs.ending.in_order.Given as goal

abbrev pub invariant-loop-i : goal.invariant-loop-i
invariant-loop-i l = AreTaken l.fn.found l.books l.i l.found l.flows.items
