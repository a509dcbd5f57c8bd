use Rattle.std.proofs.Common.{◌≡◌}
use Rattle.left_right.specs.Sides.{view}
use Rattle.flow_index.proofs.index.find_by.Given as goal

abbrev pub invariant-loop : goal.invariant-loop
invariant-loop g l = view l.reader.place ≡ view l.initial.reader.place
