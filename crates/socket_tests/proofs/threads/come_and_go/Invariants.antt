use Rattle.std.proofs.Common.{◌≤◌, ◌-◌}
use Rattle.flow_lock.specs.Callers.{IsKeeper}
use Rattle.socket_tests.proofs.threads.come_and_go.Given as goal

abbrev pub invariant-loop-count : goal.invariant-loop-count
invariant-loop-count g l = IsKeeper l.table l.slow × (l.slow.view.opened ≤ l.count) × (l.count ≤ 100)

abbrev pub decreases-loop-count : goal.decreases-loop-count
decreases-loop-count g l = 100 - l.count
