use Rattle.std.proofs.Common.{List, ℕ, map, rules, tests}
use denote.Ref.{Bor}
use Rattle.std.proofs.lemmas.Iterator.{YieldsList-from_slice}
use Rattle.std.proofs.lemmas.Iterator.Search.{find_from_yields_List}
use Rattle.report_picture.specs.Pictures.{is_wanted}
use Rattle.report_picture.proofs.choice.first_wanted.Goals as goal

pub returns : goal.returns
returns c =
    find_from_yields_List (is_wanted (map (λ (n : Bor (List ℕ)). n.now) c.args.names.now) c.args.wanted) _ _ _
    c.find.ensures.ran (YieldsList-from_slice c.args.flows.now (search rules)) (λ x b q k. search (rules, tests))
