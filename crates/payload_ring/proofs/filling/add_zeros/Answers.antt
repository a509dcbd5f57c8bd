use Rattle.std.proofs.Common.{◌++◌, List, ℕ, ap, ◌∙◌}
use Rattle.std.proofs.lemmas.List.{take-replicate}
use Rattle.payload_ring.proofs.filling.add_zeros.Goals as goal

pub returns-clause-items : goal.returns-clause-items
returns-clause-items c = c.add.ensures.items
    ∙ ap (λ (zs : List ℕ). c.args.bytes.now.items ++ zs) (take-replicate c.args.count 4096 0 c.requires.few)
