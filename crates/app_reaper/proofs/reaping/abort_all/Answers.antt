use Rattle.std.proofs.Common.{◌≡◌, ◌∷◌, List, length, ap, sym, ◌∙◌, subst, arith, rules}
use Rattle.std.specs.Prelude.{IfErr, remove}
use Rattle.tas_model.specs.declared.entry.FlowId.{FlowId}
use Rattle.app_reaper.specs.OneCall.{IsCallRefused}
use Rattle.app_reaper.specs.Reaping.{IsAborted}
use Rattle.app_reaper.proofs.Walking.{front, same_pin, no_pins, reaping_more, reaping_stops, reaping_ends}
use Rattle.app_reaper.proofs.reaping.abort_all.Goals as goal

pub returns-in_err-abort-clause-stopped : goal.returns-in_err-abort-clause-stopped
returns-in_err-abort-clause-stopped c =
    let f = c.pin.result.now in
    let left = c.loop-pass.pins.list in
    let s = c.loop-pass.pass in
    let w = c.abort.new.pass.view in
    let refused : IfErr c.from_residual.result (IsCallRefused f s.view w) = search rules in
    reaping_stops c.args.tick _ _ c.args.pass.now.view w s left (remove left 0) f c.from_residual.result
    c.loop-pass.invariant (front left f c.pin.ensures) refused

pub loop-pass-preserved : goal.loop-pass-preserved
loop-pass-preserved c =
    let f = c.remove.result in
    let left = c.loop-pass.pins.list in
    let same : c.pin.result.now ≡ f = same_pin c.pin.result.now f (sym c.pin.ensures ∙ c.remove.ensures.pin) in
    let s = c.loop-pass.pass in
    let n = c.abort.new.pass in
    let is : left ≡ f ∷ c.remove.new.self.list =
    front left f c.remove.ensures.pin ∙ ap (λ (l : List FlowId). f ∷ l) (sym c.remove.ensures.rest) in
    let aborted : IsAborted c.args.tick f s.view n.view =
    subst (λ (x : FlowId). IsAborted c.args.tick x s.view n.view) same c.in_ok-abort.ensures.aborted in
    reaping_more c.args.tick _ _ c.args.pass.now.view s n c.unpin.new.pass left c.remove.new.self.list f
    c.loop-pass.invariant is c.abort.ensures.table aborted c.unpin.ensures

pub returns-clause-reaped : goal.returns-clause-reaped
returns-clause-reaped c =
    let left = c.loop-pass.pins.list in
    let none : length left ≡ 0 = let t = c.loop-pass-test.false in let e = c.len.ensures in omega arith in
    let v = c.args.pass.now.view in
    (reaping_ends c.args.tick _ _ v c.loop-pass.pass left c.loop-pass.invariant (no_pins left none)).0

pub returns-clause-gone : goal.returns-clause-gone
returns-clause-gone c =
    let left = c.loop-pass.pins.list in
    let none : length left ≡ 0 = let t = c.loop-pass-test.false in let e = c.len.ensures in omega arith in
    let v = c.args.pass.now.view in
    (reaping_ends c.args.tick _ _ v c.loop-pass.pass left c.loop-pass.invariant (no_pins left none)).1
