use Rattle.std.proofs.Common.{sym, subst}
use Rattle.tas_model.specs.declared.entry.FlowId.{FlowId}
use Rattle.std.proofs.Common.{List}
use Rattle.flow_clock.specs.Ledgers.{AreKept}
use Rattle.flow_clock.proofs.Keeping.{after_sweep, kept_after_sweep}
use Rattle.flow_clock.proofs.Serving.{waits, goes}
use Rattle.flow_clock.proofs.closing.sweep_one.Goals as goal

pub returns-in-Pinned-clause-kept : goal.returns-in-Pinned-clause-kept
returns-in-Pinned-clause-kept c pins k =
    let s = c.sweep_reserved in
    let e = waits c.args.pin s.result _ c.in-Pinned.pin c.args.doomed.now.list c.put.new.self.list c.in-Pinned.is
    s.ensures.pin c.put.ensures.list in
    subst (λ (d : List FlowId). AreKept c.args.table.now.slots s.new.slow d pins) (sym e)
    (kept_after_sweep c.args.table.now.slots c.args.pin c.args.slow.now s.new.slow s.result c.args.doomed.now.list pins
    s.ensures.view s.ensures.doomed k)

pub returns-in_default-clause-kept : goal.returns-in_default-clause-kept
returns-in_default-clause-kept c pins k =
    let s = c.sweep_reserved in
    let e = goes c.args.pin s.result c.args.doomed.now.list c.in_default.not-Pinned in
    subst (λ (d : List FlowId). AreKept c.args.table.now.slots s.new.slow d pins) e
    (kept_after_sweep c.args.table.now.slots c.args.pin c.args.slow.now s.new.slow s.result c.args.doomed.now.list pins
    s.ensures.view s.ensures.doomed k)

pub returns-in-Pinned-clause-rights : goal.returns-in-Pinned-clause-rights
returns-in-Pinned-clause-rights c =
    let s = c.sweep_reserved in
    after_sweep c.args.pin c.args.slow.now.view s.new.slow.view s.result s.ensures.view

pub returns-in_default-clause-rights : goal.returns-in_default-clause-rights
returns-in_default-clause-rights c =
    let s = c.sweep_reserved in
    after_sweep c.args.pin c.args.slow.now.view s.new.slow.view s.result s.ensures.view
