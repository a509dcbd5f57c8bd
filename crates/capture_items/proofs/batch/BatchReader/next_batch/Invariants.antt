use Rattle.std.proofs.Common.{◌≡◌, ◌++◌, ◌-◌, ◌≤◌, [], map, fold, length, None}
use Rattle.tas_runs.specs.Batches.{cut_at}
use Rattle.capture_items.specs.Items.{item_in}
use Rattle.capture_items.specs.Marks.{CoverAll}
use Rattle.capture_items.proofs.Batches.{growing}
use Rattle.capture_items.proofs.batch.BatchReader.next_batch.Given as goal

abbrev pub invariant-loop-item : goal.invariant-loop-item
invariant-loop-item l = record {
  marked : CoverAll l.marks.marks (map item_in l.batch.items);
  none : l.self-inside.ahead ≡ None;
  few : length l.batch.items ≤ 64;
  front : l.fn.self ≡ map item_in l.batch.items ++ l.self-inside.items;
  so_far : fold cut_at (growing []) l.fn.self
      ≡ fold cut_at (growing (map item_in l.batch.items)) l.self-inside.items;
}

abbrev pub decreases-loop-item : goal.decreases-loop-item
decreases-loop-item l = 64 - length l.batch.items
