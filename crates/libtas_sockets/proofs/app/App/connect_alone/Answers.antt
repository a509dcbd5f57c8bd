use Rattle.std.proofs.Common.{◌≡◌, ◌<◌, ap, sym, ◌∙◌, subst, List, ◌∷◌, ◌++◌, [], false}
use Rattle.std.specs.List.{list_any}
use Rattle.atomic_table.specs.Seated.{TableId}
use Rattle.tas_model.specs.declared.entry.FlowId.{FlowId}
use Rattle.flow_lock.specs.Passes.{Seen}
use Rattle.flow_lock.specs.declared.view.View.{View}
use Rattle.app_reaper.specs.Lists.{is_on}
use Rattle.libtas_sockets.specs.Apps.{Application, IsSound}
use Rattle.libtas_sockets.proofs.Pins.{pinless, sound_more}
use Rattle.libtas_sockets.proofs.app.App.connect_alone.Goals as goal

pub pin_alone-pin-requires-clause-unpinned : goal.pin_alone-pin-requires-clause-unpinned
pin_alone-pin-requires-clause-unpinned g c =
    let i = c.self.inside in
    let id = c.in-Some.id in
    let free : list_any (is_on id.slot) i.sockets.list ≡ false =
    sym c.is_slot_in_use.ensures ∙ c.if-is_slot_in_use.false in
    pinless i.pass i.begun.items i.sockets.list id.slot c.self.invariant free

pub invariant_of-self-2 : goal.invariant_of-self-2
invariant_of-self-2 g c =
    let i = c.self.inside in
    let id = c.in-Some.id in
    let free : list_any (is_on id.slot) i.sockets.list ≡ false =
    sym c.is_slot_in_use.ensures ∙ c.if-is_slot_in_use.false in
    let table : i.pass.table ≡ c.args.t.now =
    ap (λ (x : Application). x.pass.table) c.self.view_is ∙ c.requires.pass.0 in
    let near : id.slot < i.pass.table.slots =
    subst (λ (x : TableId). id.slot < x.slots) (c.requires.slow.0 ∙ sym table) c.in-Some.ensures.slot in
    let p = c.pin_alone-pin.ensures.pinned in
    let v = p.1.3 in
    let pins : c.pin_alone-pin.new.pass.view.pins ≡ id ∷ i.pass.view.pins =
    ap (λ (x : Seen). x.view.pins) p.2 ∙ ap (λ (x : View). x.pins) v in
    let idle : c.pin_alone-pin.new.pass.view.held ≡ [] =
    ap (λ (x : Seen). x.view.held) p.2 ∙ (ap (λ (x : View). x.held) v ∙ c.self.invariant.idle) in
    let list : c.put-2.new.self.list ≡ i.sockets.list ++ id ∷ [] =
    c.put-2.ensures.list ∙ (ap (λ (l : List FlowId). l ++ c.pin_alone-pin.result ∷ []) c.make_room.ensures.list
    ∙ ap (λ (f : FlowId). i.sockets.list ++ f ∷ []) c.pin_alone-pin.ensures.pin) in
    subst (λ (l : List FlowId). IsSound c.pin_alone-pin.new.pass i.begun.items l) (sym list)
    (sound_more i.pass c.pin_alone-pin.new.pass i.begun.items i.sockets.list id (ap (λ (x : Seen). x.table) p.2) pins
    idle near free c.self.invariant)
