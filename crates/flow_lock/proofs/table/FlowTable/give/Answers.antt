use Rattle.std.proofs.Common.{◌≡◌, ◌∷◌, ◌<◌, ap, sym, ◌∙◌, subst, arith}
use Rattle.std.specs.Prelude.{Option, Some}
use Rattle.atomic_table.specs.Table.{Me, rest}
use Rattle.tas_model.specs.declared.entry.FlowId.{FlowId}
use Rattle.flow_lock.specs.Steps.{MayAct}
use Rattle.atomic_table.specs.Seated.{TableId}
use Rattle.flow_lock.specs.Passes.{Seen}
use Rattle.flow_lock.specs.declared.view.View.{View}
use Rattle.flow_lock.proofs.Taking.{gives_it}
use Rattle.flow_lock.proofs.table.FlowTable.give.Goals as goal

pub fetch_and-requires : goal.fetch_and-requires
fetch_and-requires g c =
    let slots = ap (λ (y : TableId). y.slots) c.self.view_is in
    let inv = c.self.invariant in
    let pin = c.pin.view_is in
    let at = ap (λ (f : FlowId). f.slot) pin in
    let id = c.pin.inside.flow in
    let near : id.slot < c.self.inside.table.shared.table_id.slots = let h = c.requires.slot in omega arith in
    let view = ap (λ (s : Seen). s.view) c.pass.view_is in
    let h = c.requires.held.0 in
    let x = c.exchange.ensures in
    let carried : c.exchange.new.seat.me.1 ≡ (id.slot, Some c.args.item) ∷ rest c.exchange.new.seat.me.1 =
    let e = ap (λ (m : Me (Option g.row.R.Denot) View). m.1) x.3 in
    e ∙ ap (λ l. (id.slot, Some c.args.item) ∷ l) (sym (ap rest e)) in
    let same : c.exchange.new.seat.me.0 ≡ c.pass.inside.seat.me.0 =
    ap (λ (m : Me (Option g.row.R.Denot) View). m.0) x.3 in
    let me : c.exchange.new.seat.me.0 ≡ c.args.pass.now.view = same ∙ view in
    let parts = ap (λ (v : View). v.parts) same in (
      x.0 ∙ (ap (λ (s : Seen). s.table) c.pass.view_is ∙ (c.requires.pass.0 ∙ sym c.self.view_is)),
      omega arith,
      gives_it g.R.Recorded.id _ _ _ id h c.args.item c.exchange.new.seat.me near
          (ap (λ (v : View). v.held) me ∙ c.requires.held.1) (c.requires.held.2 ∙ sym pin) (c.requires.own
          ∙ sym pin) c.requires.held.3 carried (let p = c.pass.invariant.2 in
          omega arith) (subst MayAct (sym me) c.requires.pass.1),
    )
