use Rattle.std.proofs.Common.{◌≡◌, ◌++◌, drop}
use Rattle.std.specs.List.{filter}
use Rattle.ladder_picture.specs.Rungs.{tells, merged, with_log}
use Rattle.ladder_picture.proofs.rungs.with_log.Given as goal

abbrev pub invariant-loop-row : goal.invariant-loop-row
invariant-loop-row l =
    l.merged.items ++ merged l.rest (filter (tells l.host l.flow) (drop l.row-index l.log))
    ≡ with_log l.rows l.log l.host l.flow
