use Rattle.std.proofs.Common.{sym, ap, ◌∙◌}
use Rattle.kv_sessions.specs.Steps.{standing_in}
use Rattle.kv_sessions.proofs.Standings.{over_fed, answered_from, whole_from}
use Rattle.kv_sessions.proofs.Taken.{on_err}
use Rattle.kv_sessions.proofs.session.Session.feed.Goals as goal

pub returns-then-ended-clause-answered : goal.returns-then-ended-clause-answered
returns-then-ended-clause-answered c =
    over_fed c.args.self.now c.args.store.now c.args.bytes.now c.new.result.items (sym c.ended.ensures
    ∙ c.if-ended.true)
    c.new.ensures.items

pub returns-in_err-mode-clause-whole : goal.returns-in_err-mode-clause-whole
returns-in_err-mode-clause-whole c =
    on_err c.from_residual.result _
    (whole_from c.args.self.now (standing_in c.replace-mode.result) c.args.store.now c.args.bytes.now
    c.take_piece.new.store (ap standing_in c.replace-mode.ensures.value ∙ c.self.view_is) c.in_err-mode.ensures.whole)

pub returns-clause-answered : goal.returns-clause-answered
returns-clause-answered c =
    answered_from c.args.self.now (standing_in c.replace-mode.result) c.args.store.now c.args.bytes.now
    c.in_ok-mode.replies.items (standing_in c.in_ok-mode.mode) c.take_piece.new.store
    (ap standing_in c.replace-mode.ensures.value ∙ c.self.view_is) c.in_ok-mode.ensures.answered
