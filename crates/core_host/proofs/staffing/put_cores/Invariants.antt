-- Measures or invariants of staffing/put_cores.
use Rattle.std.proofs.Common.{◌≡◌, length}
use Rattle.std.specs.Arc.{arc_value}
use Rattle.core_host.proofs.Hiring.{ArePut}
use Rattle.core_host.proofs.staffing.put_cores.Given as goal

-- those in front have their lanes
abbrev pub invariant-loop-worker : goal.invariant-loop-worker
invariant-loop-worker l = record {
  put : ArePut (arc_value l.shared) l.fn.workers.items l.worker-iterator.rest.items l.lanes.items;
  count : l.worker-iterator.rest.len ≡ length l.worker-iterator.rest.items;
}
