use Rattle.std.proofs.Common.{◌≡◌, sym, ap, ◌∙◌}
use Rattle.report_lines.specs.Views.{seen_reply}
use Rattle.flow_judge.specs.Making.{bare_of}
use Rattle.flow_judge.proofs.Whole.{same_reply}
use Rattle.flow_judge.proofs.replies.is_reply.Goals as goal

pub returns-then-are_one : goal.returns-then-are_one
returns-then-are_one c = λ m answered bytes.
    let bare : c.bare_answer.result ≡ c.bare_reply.result = c.are_one.ensures.same c.if-are_one.true in
    same_reply m (seen_reply c.args.reply.now) c.args.bytes.now c.has_bytes.result
    (ap bare_of (sym answered) ∙ (sym c.bare_answer.ensures ∙ (bare ∙ c.bare_reply.ensures))) bytes
    c.has_bytes.ensures
