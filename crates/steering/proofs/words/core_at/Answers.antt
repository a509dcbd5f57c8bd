use Rattle.std.proofs.Common.{◌+◌, ◌%◌, ap, sym, ◌∙◌}
use Rattle.steering.proofs.Packed.{table_at}
use Rattle.steering.proofs.words.core_at.Goals as goal

pub returns-clause-core : goal.returns-clause-core
returns-clause-core c =
    ap (λ d. (c.args.group + d) % c.args.cores) c.digit-distance.ensures.number
    ∙ sym (table_at c.args.cores c.args.words.now c.args.group c.requires.group)
