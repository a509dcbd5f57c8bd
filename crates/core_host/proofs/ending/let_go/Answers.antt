-- Answers of the proof of ending/let_go.
use Rattle.std.proofs.Common.{◌≡◌, List, length, ap, sym, ◌∙◌, arith, inr}
use Rattle.tas_model.specs.declared.entry.FlowId.{FlowId}
use Rattle.app_reaper.proofs.Walking.{front, no_pins}
use Rattle.core_host.proofs.Pins.{letting_begins, letting_more, letting_ends, holds_none}
use Rattle.core_host.proofs.ending.let_go.Goals as goal

pub loop-pass-init : goal.loop-pass-init
loop-pass-init c =
    letting_begins c.args.table.now c.args.pins.list c.args.pass.now c.requires.pass c.requires.pins

pub unpin-requires-clause-slot : goal.unpin-requires-clause-slot
unpin-requires-clause-slot c = (c.loop-pass.invariant.pins.has 0 c.remove.result c.remove.ensures.pin).1

pub unpin-requires-clause-pass : goal.unpin-requires-clause-pass
unpin-requires-clause-pass c =
    let is = c.loop-pass.invariant in
    (is.table, (is.pins.has 0 c.remove.result c.remove.ensures.pin).0, inr is.fewer.alone)

pub unpin-requires-clause-idle : goal.unpin-requires-clause-idle
unpin-requires-clause-idle c =
    holds_none c.remove.result.slot c.loop-pass.pass.view (c.loop-pass.invariant.fewer.held ∙ c.requires.pass.held)

pub loop-pass-smaller : goal.loop-pass-smaller
loop-pass-smaller c =
    let left = c.loop-pass.pins.list in
    let f = c.remove.result in
    let split = ap (λ (l : List FlowId). length l) (front left f c.remove.ensures.pin) in
    let rest = ap (λ (l : List FlowId). length l) c.remove.ensures.rest in
    omega (arith, split, rest)

pub loop-pass-preserved : goal.loop-pass-preserved
loop-pass-preserved c =
    letting_more c.args.table.now c.args.pins.list c.args.pass.now.view c.loop-pass.pass c.unpin.new.pass
    c.loop-pass.pins.list c.remove.new.self.list c.remove.result c.loop-pass.invariant c.remove.ensures.pin
    c.remove.ensures.rest c.unpin.ensures

pub returns-clause-table : goal.returns-clause-table
returns-clause-table c = c.loop-pass.invariant.table ∙ sym c.requires.pass.table

pub returns-clause-fewer : goal.returns-clause-fewer
returns-clause-fewer c =
    let left = c.loop-pass.pins.list in
    let none : length left ≡ 0 = let t = c.loop-pass-test.false in let e = c.len.ensures in omega arith in
    letting_ends c.args.table.now c.args.pins.list c.args.pass.now.view c.loop-pass.pass left c.loop-pass.invariant
    (no_pins left none)
