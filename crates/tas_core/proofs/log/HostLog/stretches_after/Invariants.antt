use Rattle.std.proofs.Common.{◌≡◌, ◌+◌, ◌≤◌, length, take}
use Rattle.tas_core.specs.Stretches.{lines_of}
use Rattle.tas_core.proofs.log.HostLog.stretches_after.Given as goal

abbrev pub invariant-loop-left : goal.invariant-loop-left
invariant-loop-left l = record {
  count : length (lines_of (take l.i l.self-inside.stretches.items)) ≡ l.lines + l.left;
  inside : l.i ≤ length l.self-inside.stretches.items;
}

abbrev pub decreases-loop-left : goal.decreases-loop-left
decreases-loop-left l = l.left
