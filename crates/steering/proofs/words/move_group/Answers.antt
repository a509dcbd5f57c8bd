use Rattle.std.proofs.Common.{ℕ, ◌+◌, ◌-◌, ◌%◌, arith}
use Rattle.steering.proofs.Packed.{table_moved, reached}
use Rattle.steering.proofs.words.move_group.Goals as goal

pub returns : goal.returns
returns c =
    let cores : ℕ = c.args.cores in let group : ℕ = c.args.group in
    let distance : ℕ = (c.args.core + cores - group % cores) % cores in
    table_moved c.args.words.now group c.with_digit.result distance (omega arith) c.with_digit.ensures cores c.args.core
    c.requires.group (reached group c.args.core cores c.requires.core)
