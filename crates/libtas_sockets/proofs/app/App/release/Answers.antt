use Rattle.std.proofs.Common.{◌≡◌, ap, sym, ◌∙◌, subst, List}
use Rattle.tas_model.specs.declared.entry.FlowId.{FlowId}
use Rattle.flow_lock.specs.Passes.{Seen}
use Rattle.app_reaper.specs.Lists.{Roomy}
use Rattle.libtas_sockets.specs.Apps.{Application, IsSound, flow_of, without_socket}
use Rattle.libtas_sockets.proofs.Pins.{same_socket, left_of, sound_less, released}
use Rattle.libtas_sockets.proofs.app.App.release.Goals as goal

pub invariant_of-self : goal.invariant_of-self
invariant_of-self c =
    let i = c.self.inside in
    let o : Application =
    record { number = i.number; pass = i.pass; notes = i.notes; begun = i.begun.items; sockets = i.sockets.list } in
    let f = c.remove-pin.result in
    let n = c.unpin.new.pass in
    let same : f ≡ flow_of o c.args.s =
    same_socket o c.args.self.now c.args.s c.place-at.result f c.self.view_is c.place-at.ensures.pin
    c.remove-pin.ensures.pin in
    let rest = left_of o c.args.self.now c.args.s c.place-at.result f c.index.new.self.list c.self.view_is
    c.requires.socket c.self.invariant.pins.once c.remove-pin.ensures.pin same
    (ap (λ (r : Roomy FlowId). r.list) c.index.ensures ∙ c.remove-pin.ensures.rest) in
    subst (λ (l : List FlowId). IsSound n i.begun.items l) (sym rest.0)
    (sound_less i.pass n i.begun.items i.sockets.list f.slot (ap (λ (x : Seen). x.table) c.unpin.ensures)
    (ap (λ (x : Seen). x.view.pins) c.unpin.ensures)
    (ap (λ (x : Seen). x.view.held) c.unpin.ensures ∙ c.self.invariant.idle) c.self.invariant)

pub returns : goal.returns
returns c =
    let i = c.self.inside in
    let o : Application =
    record { number = i.number; pass = i.pass; notes = i.notes; begun = i.begun.items; sockets = i.sockets.list } in
    let f = c.remove-pin.result in
    let same : f ≡ flow_of o c.args.s =
    same_socket o c.args.self.now c.args.s c.place-at.result f c.self.view_is c.place-at.ensures.pin
    c.remove-pin.ensures.pin in
    let rest = left_of o c.args.self.now c.args.s c.place-at.result f c.index.new.self.list c.self.view_is
    c.requires.socket c.self.invariant.pins.once c.remove-pin.ensures.pin same
    (ap (λ (r : Roomy FlowId). r.list) c.index.ensures ∙ c.remove-pin.ensures.rest) in
    released o c.args.s c.unpin.new.pass c.index.new.self.list f same c.unpin.ensures rest.1
    ∙ ap (λ (x : Application). without_socket c.args.s x) c.self.view_is
