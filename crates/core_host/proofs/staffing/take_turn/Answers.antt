-- Answers of the proof of staffing/take_turn.
use Rattle.std.proofs.Common.{ap, ◌∙◌, ◌++◌}
use Rattle.flow_lock.specs.Passes.{Seen}
use Rattle.flow_lock.specs.declared.view.View.{View}
use Rattle.core_host.proofs.Hiring.{learned_unused}
use Rattle.core_host.proofs.staffing.take_turn.Goals as goal

pub returns-clause-unused : goal.returns-clause-unused
returns-clause-unused c slots passes is =
    let back = ap (λ (s : Seen). s.view) c.collect.ensures.slow in
    let ts = c.args.app.now.pass.view.turns in
    learned_unused slots passes c.learn.ensures.order.0 c.args.slow.now.view c.collect.new.slow.view
    c.learn.new.slow.view (c.args.slow.now.view.turns ++ ts) 1 is back
    (ap (λ (x : View). x.turns) back
    ∙ (ap (λ us. us ++ ts) c.requires.turns.0 ∙ c.requires.turns.2))
    (ap (λ (x : View). x.made) back ∙ c.requires.turns.1) c.learn.ensures.order.1 c.learn.ensures.words
