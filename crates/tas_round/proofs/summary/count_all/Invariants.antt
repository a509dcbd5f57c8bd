use Rattle.std.proofs.Common.{◌≡◌, length, map, take}
use Rattle.tas_runs.specs.Summary.{all_read}
use Rattle.run_texts.specs.Frames.{history_of}
use Rattle.tas_round.proofs.summary.count_all.Given as goal

abbrev pub invariant-loop-flow : goal.invariant-loop-flow
invariant-loop-flow l = l.count ≡ length (all_read (map history_of (take l.flow-index l.flows)))
