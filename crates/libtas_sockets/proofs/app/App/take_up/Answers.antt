use Rattle.std.proofs.Common.{◌≡◌, ◌<◌, ap, sym, ◌∙◌, refl, subst, List, ◌∷◌, ◌++◌, [], false, not}
use Rattle.std.specs.Prelude.{All, Ok}
use Rattle.std.specs.List.{list_any}
use Rattle.atomic_table.specs.Seated.{TableId}
use Rattle.tas_model.specs.declared.entry.FlowId.{FlowId}
use Rattle.flow_lock.specs.declared.view.View.{View}
use Rattle.app_reaper.specs.Lists.{is_on}
use Rattle.std.proofs.Common.{rules, tests}
use Rattle.std.proofs.lemmas.Fn.{filter_same}
use Rattle.std.proofs.lemmas.List.Elements.{All-filter}
use Rattle.flow_lock.specs.Orders.{same_flow}
use Rattle.libtas_sockets.specs.Apps.{Application, IsSound, socket_on}
use Rattle.libtas_sockets.specs.Connecting.{IsTakenUp, begun_without}
use Rattle.libtas_sockets.specs.declared.begun.Begun.{Begun}
use Rattle.libtas_sockets.proofs.Pins.{pinless, sound_more, sound_begun, taken_up}
use Rattle.libtas_sockets.proofs.app.App.take_up.Goals as goal

pub pin-requires-clause-unpinned : goal.pin-requires-clause-unpinned
pin-requires-clause-unpinned c =
    let i = c.self.inside in
    let id = c.args.id in
    let free : list_any (is_on id.slot) i.sockets.list ≡ false =
    sym c.is_slot_in_use.ensures ∙ c.if-is_slot_in_use.false in
    pinless i.pass i.begun.items i.sockets.list id.slot c.self.invariant free

pub invariant_of-self-in-Ok : goal.invariant_of-self-in-Ok
invariant_of-self-in-Ok c =
    let i = c.self.inside in
    let id = c.args.id in
    let free : list_any (is_on id.slot) i.sockets.list ≡ false =
    sym c.is_slot_in_use.ensures ∙ c.if-is_slot_in_use.false in
    let table : i.pass.table ≡ c.args.t.now =
    ap (λ (x : Application). x.pass.table) c.self.view_is ∙ c.requires.pass.0 in
    let near : id.slot < i.pass.table.slots =
    subst (λ (x : TableId). id.slot < x.slots) (sym table) c.requires.slot in
    let p = c.in-Ok.ensures.pinned in
    let v = p.1.3 in
    let idle = ap (λ (x : View). x.held) v ∙ c.self.invariant.idle in
    let list : c.put.new.self.list ≡ i.sockets.list ++ id ∷ [] =
    c.put.ensures.list ∙ (ap (λ (l : List FlowId). l ++ c.in-Ok.pin ∷ []) c.make_room.ensures.list
    ∙ ap (λ (g : FlowId). i.sockets.list ++ g ∷ []) p.0) in
    let sound = sound_more i.pass c.pin.new.pass i.begun.items i.sockets.list id c.pin.ensures.table
    (ap (λ (x : View). x.pins) v) idle near free c.self.invariant in
    let left : c.retain.new.self.items ≡ begun_without id i.begun.items =
    filter_same _ (λ (b : Begun). not (same_flow b.id id)) _ (λ x b q k. search (rules, tests)) _ _
    c.retain.ensures.filtered in
    let there : All (λ (b : Begun). b.id.slot < c.pin.new.pass.table.slots) c.retain.new.self.items =
    subst (All (λ (b : Begun). b.id.slot < c.pin.new.pass.table.slots)) (sym left)
    (All-filter (λ (b : Begun). not (same_flow b.id id)) (λ (b : Begun). b.id.slot < c.pin.new.pass.table.slots)
    i.begun.items sound.slots) in
    subst (λ (l : List FlowId). IsSound c.pin.new.pass c.retain.new.self.items l) (sym list)
    (sound_begun c.pin.new.pass i.begun.items c.retain.new.self.items (i.sockets.list ++ id ∷ []) there sound)

pub returns-in-Ok-clause-made : goal.returns-in-Ok-clause-made
returns-in-Ok-clause-made c =
    let i = c.self.inside in
    let id = c.args.id in
    let o : Application =
    record { number = i.number; pass = i.pass; notes = i.notes; begun = i.begun.items; sockets = i.sockets.list } in
    let b : Application =
    record o { pass = c.pin.new.pass; begun = c.retain.new.self.items; sockets = c.put.new.self.list } in
    let p = c.in-Ok.ensures.pinned in
    let list : c.put.new.self.list ≡ i.sockets.list ++ id ∷ [] =
    c.put.ensures.list ∙ (ap (λ (l : List FlowId). l ++ c.in-Ok.pin ∷ []) c.make_room.ensures.list
    ∙ ap (λ (g : FlowId). i.sockets.list ++ g ∷ []) p.0) in
    let left : c.retain.new.self.items ≡ begun_without id i.begun.items =
    filter_same _ (λ (b : Begun). not (same_flow b.id id)) _ (λ x b q k. search (rules, tests)) _ _
    c.retain.ensures.filtered in
    subst (λ (x : Application). IsTakenUp id x b (Ok (socket_on id))) c.self.view_is (
      refl,
      p.1,
      taken_up o c.pin.new.pass c.retain.new.self.items c.put.new.self.list id c.pin.ensures.table left list,
    )
