use Rattle.std.proofs.Common.{◌≡◌, ◌-◌, ◌≤◌}
use Rattle.flow_state.specs.Made.{AreQuietTicks}
use Rattle.slow_timeout.proofs.timer.pass_quietly.Given as goal

abbrev pub invariant-loop-done : goal.invariant-loop-done
invariant-loop-done l = record {
  made : AreQuietTicks l.fn.parts l.from l.done l.parts;
  most : l.done ≤ l.count;
  phase : l.parts.phase ≡ l.fn.parts.phase;
  tuple : l.parts.tuple ≡ l.fn.parts.tuple;
  params : l.parts.params ≡ l.fn.parts.params;
}

abbrev pub decreases-loop-done : goal.decreases-loop-done
decreases-loop-done l = l.count - l.done
