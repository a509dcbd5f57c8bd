use Rattle.std.proofs.Common.{◌≤◌}
use Rattle.core_tests.proofs.gates.received_by.Given as goal

abbrev pub invariant-loop-i : goal.invariant-loop-i
invariant-loop-i l = l.count ≤ l.i
