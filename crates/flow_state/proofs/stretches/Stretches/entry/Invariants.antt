use Rattle.std.proofs.Common.{◌≡◌, ◌+◌, List, length, flat_map, take}
use Rattle.tas_model.specs.declared.entry.Entry.{Entry}
use Rattle.flow_state.proofs.stretches.Stretches.entry.Given as goal

abbrev pub invariant-loop-k : goal.invariant-loop-k
invariant-loop-k l = length (flat_map (λ (xs : List Entry). xs) (take l.k l.self)) + l.left ≡ l.i
