use Rattle.std.proofs.Common.{◌≡◌, ap, sym, subst}
use Rattle.std.specs.Prelude.{OnOk, OnErr}
use Rattle.tas_model.specs.declared.entry.FlowId.{FlowId}
use Rattle.flow_lock.specs.Callers.{IsUser}
use Rattle.flow_lock.specs.Passes.{Seen}
use Rattle.flow_lock.specs.Steps.{unpinned}
use Rattle.flow_lock.proofs.Calling.{guest_pins, user_leaves}
use Rattle.core_worker.specs.Sending.{IsPartSent, IsAllSent, IsSentByPin}
use Rattle.core_worker.proofs.Emissions.{all_sent, part_sent}
use Rattle.core_worker.proofs.sending.send.Goals as goal

pub send_by_pin-sent-requires-clause-pass : goal.send_by_pin-sent-requires-clause-pass
send_by_pin-sent-requires-clause-pass c =
    let p = c.in-Ok.ensures.pinned in
    let s = c.args.pass.now in
    let user = guest_pins _ c.args.flow s c.pin.new.pass c.pin.ensures.table p.1 c.requires.pass in
    subst (λ (f : FlowId). IsUser c.args.table.now f c.pin.new.pass) (sym p.0) user

pub returns-clause-pass : goal.returns-clause-pass
returns-clause-pass c =
    user_leaves _ _ c.send_by_pin-sent.new.pass c.unpin.new.pass c.unpin.ensures c.send_by_pin-sent.ensures.pass

pub returns-clause-sent : goal.returns-clause-sent
returns-clause-sent c =
    let p = c.in-Ok.ensures.pinned in
    let v = c.args.pass.now.view in
    let m = c.pin.new.pass.view in
    let q = c.send_by_pin-sent.new.pass.view in
    let w = c.unpin.new.pass.view in
    let sent = IsAllSent c.args.core c.args.tick in
    let gone : w ≡ unpinned c.args.flow q =
    subst (λ (f : FlowId). w ≡ unpinned f q) p.0 (ap (λ (s : Seen). s.view) c.unpin.ensures) in
    let by_pin : OnOk c.send_by_pin-sent.result (IsSentByPin c.args.flow sent m q) =
    subst (λ (f : FlowId). OnOk c.send_by_pin-sent.result (IsSentByPin f sent m q)) p.0
    c.send_by_pin-sent.ensures.sent in
    all_sent c.args.flow sent v m q w c.send_by_pin-sent.result p.1 gone by_pin

pub returns-clause-part : goal.returns-clause-part
returns-clause-part c =
    let p = c.in-Ok.ensures.pinned in
    let v = c.args.pass.now.view in
    let m = c.pin.new.pass.view in
    let q = c.send_by_pin-sent.new.pass.view in
    let w = c.unpin.new.pass.view in
    let sent = IsPartSent c.args.core c.args.tick in
    let gone : w ≡ unpinned c.args.flow q =
    subst (λ (f : FlowId). w ≡ unpinned f q) p.0 (ap (λ (s : Seen). s.view) c.unpin.ensures) in
    let by_pin : OnErr c.send_by_pin-sent.result (IsSentByPin c.args.flow sent m q) =
    subst (λ (f : FlowId). OnErr c.send_by_pin-sent.result (IsSentByPin f sent m q)) p.0
    c.send_by_pin-sent.ensures.part in
    part_sent c.args.flow sent v m q w c.send_by_pin-sent.result p.1 gone by_pin
