use Rattle.std.proofs.Common.{◌≡◌, ◌≤◌, List, [], length, filter, flat_map, drop, nat_lt}
use Rattle.tas_model.specs.declared.entry.Entry.{Entry}
use Rattle.tas_model.specs.Outputs.{sent}
use Rattle.sent_frames.proofs.flows.first_since.Given as goal

abbrev pub invariant-loop-first : goal.invariant-loop-first
invariant-loop-first l = record {
  bound : l.first ≤ length l.stretches;
  later : sent (filter (λ (x : Entry). nat_lt x.tick l.tick)
      (flat_map (λ (xs : List Entry). xs) (drop l.first l.stretches))) ≡ [];
}

abbrev pub decreases-loop-first : goal.decreases-loop-first
decreases-loop-first l = l.first
