-- Measures or invariants of kills/abort_waiting.
use Rattle.std.proofs.Common.{length}
use Rattle.core_host.proofs.Waiting.{IsWalking}
use Rattle.core_host.proofs.kills.abort_waiting.Given as goal

abbrev pub invariant-loop-id : goal.invariant-loop-id
invariant-loop-id l = IsWalking l.app l.tick l.shared.table l.fn.slow l.slow

abbrev pub decreases-loop-id : goal.decreases-loop-id
decreases-loop-id l = length l.slow.path.flows
