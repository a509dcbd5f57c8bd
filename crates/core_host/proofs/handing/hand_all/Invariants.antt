-- Measures or invariants of handing/hand_all.
use Rattle.std.proofs.Common.{◌≡◌, take}
use Rattle.core_host.specs.Handing.{comings, dealt_from}
use Rattle.core_host.proofs.handing.hand_all.Given as goal

-- the first frames went to their cores
abbrev pub invariant-loop-i : goal.invariant-loop-i
invariant-loop-i l = l.lanes.items ≡ dealt_from 0 (take l.i l.handed) (comings (take l.i l.frames)) l.fn.lanes.items
