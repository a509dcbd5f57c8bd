-- Answers of the proof of hearing/take_answer.
use Rattle.std.proofs.Common.{ℕ, sym, subst, ◌∙◌}
use Rattle.core_host.specs.Attempts.{IsAnswerTaken}
use Rattle.shared_scripts.proofs.Answered.{was_answered, not_answered}
use Rattle.shared_scripts.proofs.Looping.{if_ok_made, once_in}
use Rattle.shared_scripts.proofs.hearing.take_answer.Goals as goal

pub returns-then-has_ended : goal.returns-then-has_ended
returns-then-has_ended c =
    not_answered c.args.script.now c.args.host.now c.requires.sound (sym c.has_ended.ensures ∙ c.if-has_ended.true)

pub returns : goal.returns
returns c =
    if_ok_made c.take_answer.result
    (λ answer is.
    was_answered c.args.script.now answer c.args.host.now c.take_answer.new.self
    (once_in c.args.host.now c.requires.sound) (sym c.has_ended.ensures ∙ c.if-has_ended.false)
    (subst (λ (n : ℕ). IsAnswerTaken n answer c.args.host.now c.take_answer.new.self) c.number.ensures is)
    (c.tries_are_set.ensures.taken c.number.result answer c.args.host.now c.take_answer.new.self is))
    c.take_answer.ensures
