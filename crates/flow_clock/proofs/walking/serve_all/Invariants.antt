use Rattle.std.proofs.Common.{◌≡◌, length, drop}
use Rattle.flow_clock.specs.Ledgers.{ledger}
use Rattle.flow_clock.proofs.Serving.{Serving}
use Rattle.flow_clock.proofs.walking.serve_all.Given as goal

abbrev pub invariant-loop-served : goal.invariant-loop-served
invariant-loop-served l = record {
  serving : Serving l.tick l.fn.served l.table
      (ledger l.fn.slow.view l.fn.pins.list l.fn.doomed.list l.fn.filed.list l.fn.index.pending l.fn.kicks.list
      l.fn.path)
      l.slow l.pins.list l.doomed.list l.filed.list l.index.pending l.kicks.list l.path l.served;
  params : l.path.params ≡ l.fn.path.params;
  published : (l.index.published ≡ l.fn.index.published) × (l.index.left ≡ l.fn.index.left);
}

abbrev pub decreases-loop-served : goal.decreases-loop-served
decreases-loop-served l = length (drop l.served l.pins.list)
