use Rattle.std.proofs.Common.{◌≡◌, ◌≤◌}
use Rattle.shared_tests.proofs.queue_notes.send_all.Given as goal

abbrev pub invariant-loop : goal.invariant-loop
invariant-loop g l = (l.pass.line ≡ l.queue.line) × (l.slot ≤ 1000)
