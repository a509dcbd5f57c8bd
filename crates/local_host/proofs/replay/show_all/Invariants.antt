use Rattle.std.proofs.Common.{◌≡◌, ◌-◌, List, length}
use Rattle.host_rounds.specs.Hosts.{Live}
use Rattle.tas_runs.specs.LocalScript.{all_shown}
use Rattle.local_host.proofs.replay.show_all.Given as goal

-- what was pushed is what is wanting
abbrev pub invariant-loop-alloc : goal.invariant-loop-alloc
invariant-loop-alloc l = (flows : List Live) → length flows ≡ l.count
    → all_shown flows l.shown.items ≡ all_shown flows l.fn.shown.items

abbrev pub decreases-loop-alloc : goal.decreases-loop-alloc
decreases-loop-alloc l = l.count - length l.shown.items
