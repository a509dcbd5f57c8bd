use Rattle.std.proofs.Common.{rules, tests}
use Rattle.std.proofs.lemmas.Iterator.{YieldsList-from_slice}
use Rattle.std.proofs.lemmas.Iterator.Search.{find_from_yields_List}
use Rattle.report_picture.specs.Pictures.{is_other_end}
use Rattle.report_picture.proofs.choice.first_end.Goals as goal

pub returns : goal.returns
returns c =
    find_from_yields_List (is_other_end c.args.peer c.args.drawn.now) _ _ _ c.find.ensures.ran
    (YieldsList-from_slice c.args.flows.now (search rules)) (λ x b q k. search (rules, tests))
