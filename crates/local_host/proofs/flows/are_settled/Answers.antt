use Rattle.std.proofs.Common.{rules, tests, ap, sym, ◌∙◌}
use Rattle.std.specs.List.{list_all}
use Rattle.std.proofs.lemmas.Iterator.{YieldsList-from_slice}
use Rattle.std.proofs.lemmas.Iterator.Search.{all_from_yields_List}
use Rattle.local_host.specs.Index.{passes_at, is_settled}
use Rattle.local_host.proofs.Searching.{all_settled}
use Rattle.local_host.proofs.flows.are_settled.Goals as goal

pub returns : goal.returns
returns c = λ all. all_settled c.args.flows.now c.requires.rest
    (sym (all_from_yields_List (passes_at is_settled c.args.flows.now) _ _ _ c.all.ensures.ran
    (YieldsList-from_slice c.args.standing.now (search rules)) (λ x b q k. search (rules, tests))
    ∙ ap (list_all (passes_at is_settled c.args.flows.now)) c.requires.places) ∙ all)
