use Rattle.std.proofs.Common.{Option, subst, arith}
use Rattle.flow_state.specs.declared.call.Answer.{Answer}
use Rattle.report_lines.specs.Views.{seen_entry}
use Rattle.flow_judge.specs.Making.{IsTried}
use Rattle.flow_judge.proofs.Steps.{confirmed, denied}
use Rattle.flow_judge.proofs.trial.confirms.Goals as goal

pub returns-clause-right : goal.returns-clause-right
returns-clause-right c =
    confirmed c.args.flow.now c.try_entry.new.flow (seen_entry c.args.entry.now) c.last_bytes.result.now
    c.in-Some.answer c.is_reply.result c.entries-before.ensures.legal c.entries-after.ensures.legal
    c.in_ok-answer.ensures.params (omega (arith, c.entries-after.ensures.count, c.entries-after.type_inv))
    (subst (λ (o : Option Answer). IsTried o c.args.flow.now c.try_entry.new.flow (seen_entry c.args.entry.now))
    c.in-Some.is c.in_ok-answer.ensures.tried)
    c.last_bytes.ensures c.is_reply.ensures

pub returns-clause-wrong : goal.returns-clause-wrong
returns-clause-wrong c =
    denied c.args.flow.now c.try_entry.new.flow (seen_entry c.args.entry.now) c.last_bytes.result.now
    c.in-Some.answer c.is_reply.result
    (subst (λ (o : Option Answer). IsTried o c.args.flow.now c.try_entry.new.flow (seen_entry c.args.entry.now))
    c.in-Some.is c.in_ok-answer.ensures.tried)
    c.last_bytes.ensures c.is_reply.ensures
