-- Measures or invariants of ending/leave_all.
use Rattle.std.proofs.Common.{◌≡◌, length}
use Rattle.core_host.proofs.Pins.{AreLeaving}
use Rattle.core_host.proofs.ending.leave_all.Given as goal

-- those in front left
abbrev pub invariant-loop-lane : goal.invariant-loop-lane
invariant-loop-lane l = record {
  left : AreLeaving l.table l.fn.lanes.items l.fn.slow l.lane-iterator.rest.items l.slow;
  count : l.lane-iterator.rest.len ≡ length l.lane-iterator.rest.items;
}
