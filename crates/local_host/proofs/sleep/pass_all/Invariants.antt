use Rattle.std.proofs.Common.{◌-◌, ◌≡◌, ◌≤◌}
use Rattle.local_host.specs.Live.{flow_in}
use Rattle.local_host.specs.Sleep.{with_ticks}
use Rattle.local_host.proofs.sleep.pass_all.Given as goal

abbrev pub invariant-loop-done : goal.invariant-loop-done
invariant-loop-done l = record {
  few : l.done ≤ l.missed;
  made : flow_in l.history ≡ with_ticks (flow_in l.fn.history) l.next l.done;
}

abbrev pub decreases-loop-done : goal.decreases-loop-done
decreases-loop-done l = l.missed - l.done
