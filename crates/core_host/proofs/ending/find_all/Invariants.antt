-- Measures or invariants of ending/find_all.
use Rattle.std.proofs.Common.{length}
use Rattle.core_host.proofs.Freeing.{IsFreeing}
use Rattle.core_host.proofs.ending.find_all.Given as goal

-- those in front were freed
abbrev pub invariant-loop-slow : goal.invariant-loop-slow
invariant-loop-slow l = IsFreeing l.table l.fn.pins.list l.fn.slow l.fn.found l.pins.list l.slow l.found

abbrev pub decreases-loop-slow : goal.decreases-loop-slow
decreases-loop-slow l = length l.pins.list
