use Rattle.std.proofs.Common.{List, ◌+◌, cond, sym, ap, ◌∙◌}
use Rattle.tas_model.specs.LegalHistory.{same_caller}
use Rattle.report_lines.specs.Views.{seen_entry}
use Rattle.flow_state.specs.Counts.{counted_for}
use Rattle.flow_state.specs.declared.counts.CallerCount.{CallerCount}
use Rattle.flow_judge.specs.Judging.{Judge}
use Rattle.flow_judge.proofs.Judged.{taken_next}
use Rattle.flow_judge.proofs.judge.FlowJudge.take.Goals as goal

pub returns-then-entry-number_of-clause-wrong : goal.returns-then-entry-number_of-clause-wrong
returns-then-entry-number_of-clause-wrong c = λ same h judged may.
    c.if-entry-number_of.true (may.number ∙ (sym (judged.counts c.args.entry.now.caller)
    ∙ (ap (λ (j : Judge). counted_for c.args.entry.now.caller j.counts) (sym c.self.view_is)
    ∙ sym c.number_of.ensures)))

pub returns-clause-right : goal.returns-clause-right
returns-clause-right c = λ yes h judged.
    taken_next c.args.self.now c.self.inside.record c.confirms.new.flow c.self.inside.last
    c.self.inside.counts.counts c.count_one.new.self.counts c.self.inside.read.items c.keep.new.read.items
    (seen_entry c.args.entry.now) h c.self.view_is (c.in_ok-confirms.ensures.right c.if-not-branch.false)
    c.in_ok-confirms.ensures.params c.if-entry-self.false
    (c.if-entry-number_of.false ∙ c.number_of.ensures)
    (λ other. c.count_one.ensures.counted other
    ∙ ap (λ (cs : List CallerCount). counted_for other cs + cond (same_caller c.args.entry.now.caller other) 1 0)
    c.reserve.ensures.counts)
    c.in_ok-keep.ensures judged
