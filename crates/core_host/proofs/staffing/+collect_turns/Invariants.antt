-- Measures or invariants of staffing/+collect_turns.
use Rattle.std.proofs.Common.{length}
use Rattle.core_host.proofs.staffing.+collect_turns.Given as goal

abbrev pub decreases-collect_turns : goal.decreases-collect_turns
decreases-collect_turns l = length l.workers.now
