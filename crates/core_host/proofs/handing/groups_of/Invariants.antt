-- Measures or invariants of handing/groups_of.
use Rattle.std.proofs.Common.{◌<◌, All, take}
use Rattle.std.specs.List.{AllZip}
use Rattle.phase_orders.specs.Handing.{IsInGroup}
use Rattle.core_host.specs.Handing.{comings}
use Rattle.core_host.proofs.handing.groups_of.Given as goal

-- the first frames have theirs
abbrev pub invariant-loop-frame : goal.invariant-loop-frame
invariant-loop-frame l = record {
  groups : AllZip IsInGroup (comings (take l.frame-index l.frames)) l.groups.items;
  below : All (λ group. group < 64) l.groups.items;
}
