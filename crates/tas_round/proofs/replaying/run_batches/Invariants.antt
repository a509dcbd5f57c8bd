use Rattle.std.proofs.Common.{◌≡◌, ◌+◌, ◌≤◌, length, count_by}
use Rattle.tas_runs.specs.Records.{is_damaged}
use Rattle.tas_runs.specs.Batches.{batches_of}
use Rattle.tas_runs.specs.Replays.{at_start}
use Rattle.tas_round.proofs.Playing.{ticks}
use Rattle.tas_round.proofs.replaying.run_batches.Given as goal

abbrev pub invariant-loop-batch : goal.invariant-loop-batch
invariant-loop-batch l = record {
  played : ticks l.fn.items l.ticks l.replay l.left ≡ ticks l.fn.items 0 (at_start l.local) l.fn.items;
  ticks : l.ticks + length (batches_of l.left) ≡ length (batches_of l.fn.items);
  items : l.tally.items + length l.left ≡ length l.fn.items;
  refused : l.tally.refused + count_by is_damaged l.left ≡ count_by is_damaged l.fn.items;
  within : l.tally.refused ≤ l.tally.items;
  few : l.ticks ≤ l.tally.items;
}

abbrev pub decreases-loop-batch : goal.decreases-loop-batch
decreases-loop-batch l = length l.left
