use Rattle.std.proofs.Common.{rules, tests}
use Rattle.std.proofs.lemmas.Fn.{filter_same}
use Rattle.local_host.specs.Index.{passes_at, is_standing}
use Rattle.local_host.proofs.flows.drop_filed.Goals as goal

pub returns : goal.returns
returns c = filter_same _ (passes_at is_standing c.args.flows.now) _
    (λ x b q k. search (rules, tests)) _ _ c.retain.ensures.filtered
