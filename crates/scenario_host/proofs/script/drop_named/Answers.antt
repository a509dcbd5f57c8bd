use Rattle.std.proofs.Common.{rules, not, bytes_eq}
use Rattle.std.proofs.lemmas.Fn.{filter_same}
use Rattle.scenario_host.specs.declared.script.Named.{Named}
use Rattle.scenario_host.proofs.script.drop_named.Goals as goal

pub returns : goal.returns
returns c =
    filter_same _ (λ (n : Named). not (bytes_eq n.name.now c.args.name.now)) _ (λ x b f k. search rules) _ _
    c.retain.ensures.filtered
