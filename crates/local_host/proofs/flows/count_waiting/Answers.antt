use Rattle.std.proofs.Common.{Bool, rules, tests, ℕ, List, length, ap, ◌∙◌}
use Rattle.std.specs.List.{filter}
use Rattle.std.proofs.lemmas.Iterator.{YieldsList-from_slice}
use Rattle.std.proofs.lemmas.Iterator.Consumers.{YieldsList-from_filter, count_from_yields_List}
use Rattle.host_rounds.specs.Hosts.{waits_at}
use Rattle.local_host.specs.Index.{passes_at}
use Rattle.local_host.proofs.Searching.{count_standing, never_waits}
use Rattle.local_host.proofs.flows.count_waiting.Goals as goal

abbrev test : goal.After-count → ℕ → Bool
test c = passes_at (waits_at c.args.port) c.args.flows.now

pub returns : goal.returns
returns c =
    count_from_yields_List _ _ c.count.ensures.ran
    (YieldsList-from_filter _ (test c) (YieldsList-from_slice c.args.standing.now (search rules))
    c.filter.ensures.closure
    (λ x b q k. search (rules, tests)))
    ∙ (ap (λ (ps : List ℕ). length (filter (test c) ps)) c.requires.places
    ∙ count_standing (waits_at c.args.port) (never_waits c.args.port) c.args.flows.now c.requires.rest)
