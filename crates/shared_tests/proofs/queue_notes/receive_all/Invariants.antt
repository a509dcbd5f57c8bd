use Rattle.std.proofs.Common.{◌≡◌, ◌≤◌}
use Rattle.std.specs.Prelude.{slice_index}
use Rattle.shared_tests.proofs.queue_notes.receive_all.Given as goal

abbrev pub invariant-loop : goal.invariant-loop
invariant-loop g l = (l.receiver.line ≡ l.queue.line) × (slice_index l.next 0 ≤ 1000) × (slice_index l.next 1 ≤ 1000)
