use Rattle.std.proofs.Common.{◌≡◌, ◌+◌, ◌-◌, ◌<◌, List, subst, sym, arith}
use Rattle.flow_state.specs.Flow.{Flow}
use Rattle.flow_clock.specs.Ledgers.{IsKept}
use Rattle.flow_clock.specs.Walks.{IsSwept}
use Rattle.flow_clock.proofs.Keeping.{each_at}
use Rattle.flow_clock.proofs.Sweeping.{Sweeping, sweeping_begins, sweeping_more, sweeping_stops}
use Rattle.flow_clock.proofs.Serving.{on_err_stopped}
use Rattle.flow_clock.proofs.walking.sweep_again.Goals as goal

pub loop-left-init : goal.loop-left-init
loop-left-init c =
    let d = c.args.doomed.now.list in
    let s = c.args.slow.now in
    let f = c.args.filed.now.list in
    subst (Sweeping c.args.table.now s d f s d f) (sym c.len-left.ensures)
    (sweeping_begins c.args.table.now s d f c.requires.slow)

pub returns-in_err-reserve-clause-stopped : goal.returns-in_err-reserve-clause-stopped
returns-in_err-reserve-clause-stopped c pins changes kicks path =
    let l = c.loop-left in
    on_err_stopped c.from_residual.result
    (sweeping_stops c.args.table.now c.args.slow.now c.args.doomed.now.list c.args.filed.now.list l.slow l.doomed.list
    l.filed.list c.reserve.new.self.list l.left pins changes kicks path l.invariant c.reserve.ensures.list)

pub sweep_one-requires-clause-kept : goal.sweep_one-requires-clause-kept
sweep_one-requires-clause-kept c =
    let l = c.loop-left in
    each_at (IsKept c.args.table.now.slots l.slow) l.doomed.list 0 c.remove-pin.result
    (l.invariant.kept _ c.requires.kept).each_doomed c.remove-pin.ensures.pin

pub loop-left-preserved : goal.loop-left-preserved
loop-left-preserved c =
    let l = c.loop-left in
    let n = c.sweep_one.new in
    let more : 0 < l.left = let t = c.loop-left-test.true in omega arith in
    let less : l.left ≡ (l.left - 1) + 1 = omega arith in
    let same = c.reserve.ensures.list in
    let w = subst (λ (x : List Flow). IsSwept c.remove-pin.result l.slow.view n.slow.view x n.filed.list
    c.remove-pin.new.self.list n.doomed.list) same c.sweep_one.ensures.swept in
    sweeping_more c.args.table.now c.args.slow.now c.args.doomed.now.list c.args.filed.now.list l.slow n.slow
    l.doomed.list c.remove-pin.new.self.list n.doomed.list l.filed.list n.filed.list l.left (l.left - 1)
    c.remove-pin.result l.invariant more less c.remove-pin.ensures.pin c.remove-pin.ensures.rest w
    c.sweep_one.ensures.slow c.sweep_one.ensures.rights c.sweep_one.ensures.kept
