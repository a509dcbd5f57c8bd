use Rattle.std.proofs.Common.{rules, tests, Bool, sym, ◌∙◌}
use Rattle.std.proofs.lemmas.Iterator.{YieldsList-from_slice}
use Rattle.std.proofs.lemmas.Iterator.Consumers.{YieldsList-from_filter, count_from_yields_List}
use Rattle.std.proofs.lemmas.List.Sums.{length-filter}
use Rattle.flow_state.specs.Flow as records
use Rattle.tas_runs.specs.Summary.{is_done}
use Rattle.run_texts.specs.Frames.{history_of}
use Rattle.tas_round.proofs.Summing.{count_mapped}
use Rattle.tas_round.proofs.summary.count_done.Goals as goal

abbrev test : records.History → Bool
test f = is_done (history_of f)

pub returns : goal.returns
returns c =
    count_from_yields_List _ _ c.count.ensures.ran
    (YieldsList-from_filter _ test (YieldsList-from_slice c.args.flows.now (search rules)) c.filter.ensures.closure
    (λ x b q k. search (rules, tests)))
    ∙ (length-filter test c.args.flows.now ∙ sym (count_mapped is_done history_of c.args.flows.now))
