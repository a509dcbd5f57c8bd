-- Answers of the proof of table/settle.
use Rattle.std.proofs.Common.{ap, ◌∙◌, subst, sym}
use Rattle.flow_lock.specs.Passes.{Seen, with_turns}
use Rattle.flow_lock.specs.Steps.{HasAll}
use Rattle.flow_lock.specs.declared.view.View.{View}
use Rattle.phase_tests.proofs.Resting.{has_both, pin_of, rests, settles}
use Rattle.phase_tests.proofs.table.settle.Goals as goal

pub learn-requires : goal.learn-requires
learn-requires c =
    let h = c.requires.slow in
    let e = c.collect.ensures.slow in
    let v = c.args.slow.now.view in
    let w = c.args.app.now.pass.view in
    let all : HasAll (with_turns v w) = has_both v w h.turns c.requires.app.turns h.made in (
      ap (λ (s : Seen). s.table) e ∙ h.table,
      ap (λ (s : Seen). s.view.baton) e ∙ h.baton,
      subst HasAll (sym (ap (λ (s : Seen). s.view) e)) all,
    )

pub returns-clause-slow : goal.returns-clause-slow
returns-clause-slow c =
    let h = c.requires.slow in
    let e = c.collect.ensures.slow in
    let o = c.learn.ensures.order in
    rests c.args.table.now c.args.pin.now c.collect.new.slow c.learn.new.slow o.0 o.1 c.learn.ensures.table
    (ap (λ (s : Seen). s.table) e ∙ h.table) (ap (λ (s : Seen). s.view.baton) e ∙ h.baton)
    (ap (λ (s : Seen). s.view.held) e ∙ h.held)
    (pin_of c.args.table.now c.args.pin.now c.args.slow.now c.collect.new.slow h (ap (λ (s : Seen). s.view.pins) e))

pub returns-clause-parts : goal.returns-clause-parts
returns-clause-parts c =
    ap (λ (v : View). v.parts) c.learn.ensures.order.1.3 ∙ ap (λ (s : Seen). s.view.parts) c.collect.ensures.slow

pub returns-clause-app : goal.returns-clause-app
returns-clause-app c =
    settles c.args.table.now c.args.s c.args.app.now c.collect.new.self c.requires.app c.collect.ensures.collected
