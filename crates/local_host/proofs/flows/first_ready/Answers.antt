use Rattle.std.proofs.Common.{Bool, ℕ, rules, tests, sym, ap, ◌∙◌}
use Rattle.std.specs.List.{find}
use Rattle.std.proofs.lemmas.Iterator.{YieldsList-from_slice}
use Rattle.std.proofs.lemmas.Iterator.Consumers.{YieldsList-from_copied}
use Rattle.std.proofs.lemmas.Iterator.Search.{find_from_yields_List}
use Rattle.host_rounds.specs.Hosts.{is_ready}
use Rattle.local_host.specs.Index.{passes_at}
use Rattle.local_host.proofs.Searching.{find_standing, never_ready, same_option}
use Rattle.local_host.proofs.flows.first_ready.Goals as goal

abbrev test : goal.After-find → ℕ → Bool
test c = passes_at (is_ready c.args.port) c.args.flows.now

pub returns : goal.returns
returns c =
    sym (same_option c.find.result)
    ∙ (find_from_yields_List (test c) _ _ _ c.find.ensures.ran
    (YieldsList-from_copied (YieldsList-from_slice c.args.standing.now (search rules)))
    (λ x b q k. search (rules, tests))
    ∙ (ap (find (test c)) c.requires.places
    ∙ find_standing (is_ready c.args.port) (never_ready c.args.port) c.args.flows.now c.requires.rest))
