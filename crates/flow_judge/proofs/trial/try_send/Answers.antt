use Rattle.std.proofs.Common.{ℕ, List, ◌<◌, length, subst}
use Rattle.tas_model.specs.LegalHistory.{replay}
use Rattle.report_lines.specs.Views.{seen_entry}
use Rattle.flow_judge.proofs.Steps.{never_over}
use Rattle.flow_judge.proofs.trial.try_send.Goals as goal

pub returns-then-are_above-clause-tried : goal.returns-then-are_above-clause-tried
returns-then-are_above-clause-tried c =
    never_over (replay c.args.flow.now.params c.args.flow.now.entries) (seen_entry c.args.entry.now) c.args.offered
    c.requires (subst (λ (l : List ℕ). c.args.offered < length l) c.in_ok-bytes.ensures
    (c.are_above.ensures.above c.if-are_above.true))
