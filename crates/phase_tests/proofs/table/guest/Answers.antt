-- Answers of the proof of table/guest.
use Rattle.std.proofs.Common.{◌≡◌, ap, ◌∙◌, subst, sym}
use lib.ListN.{get_elem?}
use Rattle.flow_lock.specs.Passes.{Seen, left, right, with_turns}
use Rattle.flow_lock.specs.Steps.{HasAll}
use Rattle.flow_lock.specs.declared.view.View.{View}
use Rattle.phase_tests.proofs.Resting.{has_one, rests, off}
use Rattle.phase_tests.proofs.table.guest.Goals as goal

pub split-pass-requires : goal.split-pass-requires
split-pass-requires c = (c.requires.slow.table, c.requires.parts, c.requires.slow.alone.0)

pub collect-requires-clause-table : goal.collect-requires-clause-table
collect-requires-clause-table c =
    (ap (λ (s : Seen). s.table) c.split-pass.ensures.from ∙ c.requires.slow.table, c.split-pass.ensures.new.0)

pub collect-requires-clause-idle : goal.collect-requires-clause-idle
collect-requires-clause-idle c = ap (λ (v : View). v.held) c.split-pass.ensures.new.1

pub learn-requires : goal.learn-requires
learn-requires c =
    let h = c.requires.slow in
    let v = c.args.slow.now.view in
    let f = c.split-pass.ensures.from in
    let e = c.collect.ensures.slow in
    let view : c.collect.new.slow.view ≡ with_turns (left v) (right v) =
    ap (λ (s : Seen). s.view) e
    ∙ (λ i. with_turns ((f i).view) (c.split-pass.ensures.new.1 i)) in (
      ap (λ (s : Seen). s.table) e ∙ (ap (λ (s : Seen). s.table) f ∙ h.table),
      ap (λ (x : View). x.baton) view ∙ h.alone.0,
      subst HasAll (sym view) (has_one v h.alone),
    )

pub returns-clause-slow : goal.returns-clause-slow
returns-clause-slow c =
    let h = c.requires.slow in
    let f = c.split-pass.ensures.from in
    let e = c.collect.ensures.slow in
    let o = c.learn.ensures.order in
    rests c.args.table.now c.args.pin.now c.collect.new.slow c.learn.new.slow o.0 o.1 c.learn.ensures.table
    (ap (λ (s : Seen). s.table) e ∙ (ap (λ (s : Seen). s.table) f ∙ h.table))
    (ap (λ (s : Seen). s.view.baton) e ∙ (ap (λ (s : Seen). s.view.baton) f ∙ h.alone.0))
    (ap (λ (s : Seen). s.view.held) e ∙ (ap (λ (s : Seen). s.view.held) f ∙ h.held)) (
      h.pin.0,
      ap (λ (s : Seen). get_elem? s.view.pins h.pin.0) e
          ∙ (ap (λ (s : Seen). get_elem? s.view.pins h.pin.0) f ∙ h.pin.1),
    )

pub returns-clause-new : goal.returns-clause-new
returns-clause-new c =
    off c.args.table.now c.args.slow.now.view c.split-pass.result c.collect.new.pass c.split-pass.ensures.new.0
    c.split-pass.ensures.new.1 c.collect.ensures.pass
