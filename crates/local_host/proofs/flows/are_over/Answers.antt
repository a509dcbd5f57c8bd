use Rattle.std.proofs.Common.{rules, tests, ap, ◌∙◌}
use Rattle.std.specs.List.{list_all}
use Rattle.std.proofs.lemmas.Iterator.{YieldsList-from_slice}
use Rattle.std.proofs.lemmas.Iterator.Search.{all_from_yields_List}
use Rattle.host_rounds.specs.Hosts.{is_over}
use Rattle.local_host.specs.Index.{passes_at}
use Rattle.local_host.proofs.Searching.{all_standing, always_over}
use Rattle.local_host.proofs.flows.are_over.Goals as goal

pub returns : goal.returns
returns c =
    all_from_yields_List (passes_at is_over c.args.flows.now) _ _ _ c.all.ensures.ran
    (YieldsList-from_slice c.args.standing.now (search rules)) (λ x b q k. search (rules, tests))
    ∙ (ap (list_all (passes_at is_over c.args.flows.now)) c.requires.places
    ∙ all_standing is_over always_over c.args.flows.now c.requires.rest)
