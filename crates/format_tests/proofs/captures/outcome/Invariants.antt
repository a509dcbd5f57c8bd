use Rattle.std.proofs.Common.{◌≤◌, length}
use Rattle.format_tests.proofs.captures.outcome.Given as goal

abbrev pub invariant-loop-number : goal.invariant-loop-number
invariant-loop-number l = l.at ≤ length l.bytes
