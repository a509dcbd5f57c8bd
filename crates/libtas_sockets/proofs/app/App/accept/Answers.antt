use Rattle.std.proofs.Common.{◌≡◌, ◌<◌, ap, sym, ◌∙◌, refl, subst, List, ◌∷◌, ◌++◌, [], false}
use Rattle.std.specs.Prelude.{Result, Ok, Err}
use Rattle.std.specs.List.{list_any}
use Rattle.atomic_table.specs.Seated.{TableId}
use Rattle.tas_model.specs.declared.entry.Caller.{Caller}
use Rattle.tas_model.specs.declared.entry.Caller.TheVariants as callers
use Rattle.tas_model.specs.declared.entry.FlowId.{FlowId}
use Rattle.flow_lock.specs.Answers.{IsPinned}
use Rattle.flow_lock.specs.Passes.{Seen}
use Rattle.flow_lock.specs.Steps.{without, unpinned}
use Rattle.app_reaper.specs.Lists.{is_on}
use Rattle.slow_handshake.specs.Openings.{first_ready}
use Rattle.libtas_sockets.specs.Accepting.{IsAnsweredBy, IsTried}
use Rattle.libtas_sockets.specs.Apps.{Application, IsSound, socket_on}
use Rattle.libtas_sockets.specs.declared.socket_error.SocketError.{SocketError}
use Rattle.libtas_sockets.proofs.Pins.{pinless, without_first, sound_more, sound_moved, with_more, with_same}
use Rattle.libtas_sockets.proofs.Answering.{ready_near, some_is, tried_view, tried_err}
use Rattle.libtas_sockets.proofs.app.App.accept.Goals as goal

pub pin-requires-clause-slot : goal.pin-requires-clause-slot
pin-requires-clause-slot c =
    ready_near c.args.t.now.slots _ c.in-Some.id (sym c.ready.ensures ∙ c.in-Some.is) c.requires.slot

pub pin-requires-clause-unpinned : goal.pin-requires-clause-unpinned
pin-requires-clause-unpinned c =
    let i = c.self.inside in
    let id = c.in-Some.id in
    let free : list_any (is_on id.slot) i.sockets.list ≡ false =
    sym c.is_slot_in_use.ensures ∙ c.if-is_slot_in_use.false in
    pinless i.pass i.begun.items i.sockets.list id.slot c.self.invariant free

pub accept_pinned-accepted-requires-clause-slot : goal.accept_pinned-accepted-requires-clause-slot
accept_pinned-accepted-requires-clause-slot c =
    subst (λ (f : FlowId). f.slot < c.args.t.now.slots) (sym c.in-Ok.ensures.pinned.0)
    (ready_near c.args.t.now.slots _ c.in-Some.id (sym c.ready.ensures ∙ c.in-Some.is) c.requires.slot)

pub unpin-requires-clause-slot : goal.unpin-requires-clause-slot
unpin-requires-clause-slot c =
    subst (λ (f : FlowId). f.slot < c.args.t.now.slots) (sym c.in-Ok.ensures.pinned.0)
    (ready_near c.args.t.now.slots _ c.in-Some.id (sym c.ready.ensures ∙ c.in-Some.is) c.requires.slot)

pub invariant_of-self-in-Ok-accepted : goal.invariant_of-self-in-Ok-accepted
invariant_of-self-in-Ok-accepted c =
    let i = c.self.inside in
    let id = c.in-Some.id in
    let f = c.in-Ok.pin in
    let is : f ≡ id = c.in-Ok.ensures.pinned.0 in
    let n = c.accept_pinned-accepted.new.pass in
    let free : list_any (is_on id.slot) i.sockets.list ≡ false =
    sym c.is_slot_in_use.ensures ∙ c.if-is_slot_in_use.false in
    let free_here : list_any (is_on f.slot) i.sockets.list ≡ false =
    subst (λ (g : FlowId). list_any (is_on g.slot) i.sockets.list ≡ false) (sym is) free in
    let table : i.pass.table ≡ c.args.t.now =
    ap (λ (x : Application). x.pass.table) c.self.view_is ∙ c.requires.pass.0 in
    let near : f.slot < i.pass.table.slots = subst (λ (x : TableId). f.slot < x.slots) (sym table)
    (subst (λ (g : FlowId). g.slot < c.args.t.now.slots) (sym is)
    (ready_near c.args.t.now.slots _ id (sym c.ready.ensures ∙ c.in-Some.is) c.requires.slot)) in
    let pinned = subst (λ (g : FlowId). IsPinned g i.pass.view c.pin.new.pass.view) (sym is) c.in-Ok.ensures.pinned.1 in
    let tried = tried_view f _ c.args.tick i.pass.view c.pin.new.pass.view n.view _ pinned
    c.accept_pinned-accepted.ensures.made c.self.invariant.idle in
    let list : c.put.new.self.list ≡ i.sockets.list ++ f ∷ [] =
    c.put.ensures.list ∙ ap (λ (l : List FlowId). l ++ f ∷ []) c.make_room.ensures.list in
    subst (λ (l : List FlowId). IsSound n i.begun.items l) (sym list)
    (sound_more i.pass n i.begun.items i.sockets.list f (c.accept_pinned-accepted.ensures.table ∙ c.pin.ensures.table)
    tried.0 tried.1 near free_here c.self.invariant)

pub invariant_of-self-in-Err-accepted : goal.invariant_of-self-in-Err-accepted
invariant_of-self-in-Err-accepted c =
    let i = c.self.inside in
    let id = c.in-Some.id in
    let f = c.in-Ok.pin in
    let is : f ≡ id = c.in-Ok.ensures.pinned.0 in
    let n = c.accept_pinned-accepted.new.pass in
    let free : list_any (is_on id.slot) i.sockets.list ≡ false =
    sym c.is_slot_in_use.ensures ∙ c.if-is_slot_in_use.false in
    let free_here : list_any (is_on f.slot) i.sockets.list ≡ false =
    subst (λ (g : FlowId). list_any (is_on g.slot) i.sockets.list ≡ false) (sym is) free in
    let pinned = subst (λ (g : FlowId). IsPinned g i.pass.view c.pin.new.pass.view) (sym is) c.in-Ok.ensures.pinned.1 in
    let tried = tried_view f _ c.args.tick i.pass.view c.pin.new.pass.view n.view _ pinned
    c.accept_pinned-accepted.ensures.made c.self.invariant.idle in
    let pins = ap (λ (x : Seen). x.view.pins) c.unpin.ensures ∙ (ap (λ (l : List FlowId). without f.slot l) tried.0
    ∙ without_first f.slot f i.pass.view.pins refl
    (pinless i.pass i.begun.items i.sockets.list f.slot c.self.invariant free_here)) in
    subst (λ (l : List FlowId). IsSound c.unpin.new.pass i.begun.items l) (sym c.make_room.ensures.list)
    (sound_moved i.pass c.unpin.new.pass i.begun.items i.sockets.list
    (ap (λ (x : Seen). x.table) c.unpin.ensures ∙ (c.accept_pinned-accepted.ensures.table ∙ c.pin.ensures.table))
    pins (ap (λ (x : Seen). x.view.held) c.unpin.ensures ∙ tried.1) c.self.invariant)

pub returns-in-Ok-accepted-clause-made : goal.returns-in-Ok-accepted-clause-made
returns-in-Ok-accepted-clause-made c =
    let i = c.self.inside in
    let o : Application =
    record { number = i.number; pass = i.pass; notes = i.notes; begun = i.begun.items; sockets = i.sockets.list } in
    let id = c.in-Some.id in
    let f = c.in-Ok.pin in
    let is : f ≡ id = c.in-Ok.ensures.pinned.0 in
    let u = c.pin.new.pass.view in
    let n = c.accept_pinned-accepted.new.pass in
    let by : Caller = callers.App i.number in
    let b : Application = record o { pass = n; sockets = c.put.new.self.list } in
    let done : IsAnsweredBy id by c.args.tick u n.view (Ok tt) =
    subst (λ (g : FlowId). IsAnsweredBy g by c.args.tick u n.view (Ok tt)) is
    (subst (λ (q : Result (Unit {0}) SocketError). IsAnsweredBy f by c.args.tick u n.view q) c.in-Ok-accepted.is
    c.accept_pinned-accepted.ensures.made) in
    let list : c.put.new.self.list ≡ i.sockets.list ++ id ∷ [] =
    c.put.ensures.list ∙ (ap (λ (l : List FlowId). l ++ f ∷ []) c.make_room.ensures.list
    ∙ ap (λ (g : FlowId). i.sockets.list ++ g ∷ []) is) in
    let tried : IsTried id c.args.tick o b (Ok (socket_on id)) = (
      u,
      n.view,
      c.in-Ok.ensures.pinned.1,
      done,
      with_more o o n c.put.new.self.list id refl (c.accept_pinned-accepted.ensures.table ∙ c.pin.ensures.table) list,
      refl,
    ) in
    some_is (first_ready c.args.slow.now c.args.port) id _ (sym c.ready.ensures ∙ c.in-Some.is)
    (subst (λ (x : Application). IsTried id c.args.tick x b (Ok (socket_on id))) c.self.view_is tried)

pub returns-in-Err-accepted-clause-made : goal.returns-in-Err-accepted-clause-made
returns-in-Err-accepted-clause-made c =
    let i = c.self.inside in
    let o : Application =
    record { number = i.number; pass = i.pass; notes = i.notes; begun = i.begun.items; sockets = i.sockets.list } in
    let id = c.in-Some.id in
    let f = c.in-Ok.pin in
    let is : f ≡ id = c.in-Ok.ensures.pinned.0 in
    let u = c.pin.new.pass.view in
    let n = c.accept_pinned-accepted.new.pass in
    let by : Caller = callers.App i.number in
    let e = c.in-Err-accepted.refused in
    let b : Application = record o { pass = c.unpin.new.pass; sockets = c.make_room.new.sockets.list } in
    let done : IsAnsweredBy id by c.args.tick u n.view (Err e) =
    subst (λ (g : FlowId). IsAnsweredBy g by c.args.tick u n.view (Err e)) is
    (subst (λ (q : Result (Unit {0}) SocketError). IsAnsweredBy f by c.args.tick u n.view q) c.in-Err-accepted.is
    c.accept_pinned-accepted.ensures.made) in
    let tried : IsTried id c.args.tick o b (Err e) = (
      u,
      n.view,
      c.in-Ok.ensures.pinned.1,
      done,
      with_same o o c.unpin.new.pass c.make_room.new.sockets.list (unpinned id n.view) refl
          (ap (λ (x : Seen). x.table) c.unpin.ensures ∙ (c.accept_pinned-accepted.ensures.table ∙ c.pin.ensures.table))
          (ap (λ (x : Seen). x.view) c.unpin.ensures ∙ ap (λ (g : FlowId). unpinned g n.view) is)
          c.make_room.ensures.list,
      tt,
    ) in
    some_is (first_ready c.args.slow.now c.args.port) id _ (sym c.ready.ensures ∙ c.in-Some.is)
    (tried_err id c.args.tick c.args.self.now b e
    (subst (λ (x : Application). IsTried id c.args.tick x b (Err e)) c.self.view_is tried))
