use Rattle.std.proofs.Common.{◌≡◌, ◌+◌, ◌≤◌, length, count_by}
use Rattle.host_rounds.specs.Lists.{Each}
use Rattle.host_rounds.specs.Histories.{HasHistory}
use Rattle.host_rounds.specs.Cores.{AllBelow}
use Rattle.tas_runs.specs.Records.{is_damaged}
use Rattle.tas_runs.specs.Batches.{batches_of}
use Rattle.tas_round.proofs.CoresPlaying.{LeadsRight}
use Rattle.tas_round.proofs.on_cores.run_batches.Given as goal

abbrev pub invariant-loop-batch : goal.invariant-loop-batch
invariant-loop-batch g l = record {
  played : LeadsRight l.local l.fn.items l.ticks l.replay l.left;
  histories : Each HasHistory l.replay.host.flows;
  cores : l.cores ≡ l.fn.cores;
  below : AllBelow l.fn.cores.count l.replay.host;
  ticks : l.ticks + length (batches_of l.left) ≡ length (batches_of l.fn.items);
  items : l.tally.items + length l.left ≡ length l.fn.items;
  refused : l.tally.refused + count_by is_damaged l.left ≡ count_by is_damaged l.fn.items;
  within : l.tally.refused ≤ l.tally.items;
  few : l.ticks ≤ l.tally.items;
}

abbrev pub decreases-loop-batch : goal.decreases-loop-batch
decreases-loop-batch g l = length l.left
