use Rattle.std.proofs.Common.{◌≡◌, ◌<◌, ap, sym, ◌∙◌, subst, List, ◌∷◌, ◌++◌, [], false}
use Rattle.std.specs.List.{list_any}
use Rattle.atomic_table.specs.Seated.{TableId}
use Rattle.tas_model.specs.declared.entry.FlowId.{FlowId}
use Rattle.flow_lock.specs.declared.view.View.{View}
use Rattle.app_reaper.specs.Lists.{is_on}
use Rattle.libtas_sockets.specs.Apps.{Application, IsSound}
use Rattle.libtas_sockets.specs.declared.begun.Begun.{Begun}
use Rattle.libtas_sockets.proofs.Pins.{pinless, sound_more, begun_more, refused_pins}
use Rattle.libtas_sockets.proofs.app.App.open.Goals as goal

pub pin-requires-clause-unpinned : goal.pin-requires-clause-unpinned
pin-requires-clause-unpinned c =
    let i = c.self.inside in
    let id = c.args.id in
    let free : list_any (is_on id.slot) i.sockets.list ≡ false =
    sym c.is_slot_in_use.ensures ∙ c.if-is_slot_in_use.false in
    pinless i.pass i.begun.items i.sockets.list id.slot c.self.invariant free

pub invariant_of-self-in-Ok-pin : goal.invariant_of-self-in-Ok-pin
invariant_of-self-in-Ok-pin c =
    let i = c.self.inside in
    let id = c.args.id in
    let free : list_any (is_on id.slot) i.sockets.list ≡ false =
    sym c.is_slot_in_use.ensures ∙ c.if-is_slot_in_use.false in
    let table : i.pass.table ≡ c.args.t.now =
    ap (λ (x : Application). x.pass.table) c.self.view_is ∙ c.requires.pass.0 in
    let near : id.slot < i.pass.table.slots =
    subst (λ (x : TableId). id.slot < x.slots) (sym table) c.requires.slot in
    let p = c.in-Ok-pin.ensures.pinned in
    let v = p.1.3 in
    let idle = ap (λ (x : View). x.held) v ∙ c.self.invariant.idle in
    let list : c.put-in-Ok-pin.new.self.list ≡ i.sockets.list ++ id ∷ [] =
    c.put-in-Ok-pin.ensures.list ∙ (ap (λ (l : List FlowId). l ++ c.in-Ok-pin.pin ∷ []) c.make_room.ensures.list
    ∙ ap (λ (g : FlowId). i.sockets.list ++ g ∷ []) p.0) in
    let sound = sound_more i.pass c.pin.new.pass i.begun.items i.sockets.list id c.pin.ensures.table
    (ap (λ (x : View). x.pins) v) idle near free c.self.invariant in
    subst (λ (b : List Begun). IsSound c.pin.new.pass b c.put-in-Ok-pin.new.self.list) (sym c.reserve.ensures.items)
    (subst (λ (l : List FlowId). IsSound c.pin.new.pass i.begun.items l) (sym list) sound)

pub invariant_of-self-in-Err : goal.invariant_of-self-in-Err
invariant_of-self-in-Err c =
    let i = c.self.inside in
    let id = c.args.id in
    let x : Begun = record { id = id; tuple = c.args.tuple } in
    let table : i.pass.table ≡ c.args.t.now =
    ap (λ (x : Application). x.pass.table) c.self.view_is ∙ c.requires.pass.0 in
    let near : id.slot < i.pass.table.slots =
    subst (λ (x : TableId). id.slot < x.slots) (sym table) c.requires.slot in
    let r = refused_pins id i.pass.view c.pin.new.pass.view c.in-Err.refused c.in-Err.ensures.refused in
    let items : c.push_reserved.new.self.items ≡ i.begun.items ++ x ∷ [] =
    c.push_reserved.ensures.items ∙ ap (λ (b : List Begun). b ++ x ∷ []) c.reserve.ensures.items in
    subst (λ (l : List FlowId). IsSound c.pin.new.pass c.push_reserved.new.self.items l) (sym c.make_room.ensures.list)
    (begun_more i.pass c.pin.new.pass i.begun.items c.push_reserved.new.self.items i.sockets.list x c.pin.ensures.table
    r.0 r.1 items near c.self.invariant)
