use Rattle.std.proofs.Common.{[], ◌∷◌, map, rules, ap, ◌∙◌}
use Rattle.steering.specs.declared.order.Seen.{Seen}
use Rattle.steering.specs.Words.{table_of}
use Rattle.steering.proofs.Packed.{first_is_spread}
use Rattle.steering.proofs.Steps.{begins}
use Rattle.steering.proofs.steering.Steering.new.Goals as goal

pub ruled-requires : goal.ruled-requires
ruled-requires c = (search rules, (search rules, begins))

pub returns-clause-first : goal.returns-clause-first
returns-clause-first c =
    ap (λ (v : Seen). map (table_of c.args.cores) v.words) c.in_ok-cell.ensures.1
    ∙ ap (λ t. t ∷ []) (first_is_spread c.args.cores)
