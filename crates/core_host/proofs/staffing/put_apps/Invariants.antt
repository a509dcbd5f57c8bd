-- Measures or invariants of staffing/put_apps.
use Rattle.std.proofs.Common.{◌≡◌, length}
use Rattle.std.specs.Arc.{arc_value}
use Rattle.core_host.proofs.Hiring.{ArePutFor}
use Rattle.core_host.proofs.staffing.put_apps.Given as goal

-- those in front have their lanes
abbrev pub invariant-loop-app : goal.invariant-loop-app
invariant-loop-app l = record {
  put : ArePutFor (arc_value l.shared) l.fn.apps.items l.app-iterator.rest.items l.fn.lanes.items l.lanes.items;
  count : l.app-iterator.rest.len ≡ length l.app-iterator.rest.items;
}
