use Rattle.std.proofs.Common.{Option, subst}
use Rattle.flow_state.specs.Flow.{Flow}
use Rattle.report_lines.specs.Views.{seen_entry}
use Rattle.flow_judge.specs.Judging.{IsOpened}
use Rattle.flow_judge.proofs.Judged.{first_judged}
use Rattle.flow_judge.proofs.judge.FlowJudge.open.Goals as goal

pub returns-clause-right : goal.returns-clause-right
returns-clause-right c =
    first_judged c.in-Some.record c.args.params.now (seen_entry c.args.entry.now) c.in_ok-counts.counts.counts
    c.new.result.items
    (subst (λ (o : Option Flow). IsOpened o c.args.params.now (seen_entry c.args.entry.now)) c.in-Some.is
    c.in_ok-record.ensures.opened)
    (c.is_ok.ensures.0 c.if-not-is_ok.false) c.if-entry-ne0.false
    c.in_ok-counts.ensures c.new.ensures.items
