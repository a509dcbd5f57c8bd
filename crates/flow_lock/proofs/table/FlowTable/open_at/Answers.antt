use Rattle.std.proofs.Common.{◌≡◌, ◌∷◌, ◌<◌, ap, sym, ◌∙◌, subst, arith}
use Rattle.std.specs.Prelude.{Option, Some}
use Rattle.atomic_table.specs.Table.{Me, rest}
use lib.ListN.{get_elem?}
use Rattle.flow_lock.specs.Histories.{history_of}
use Rattle.flow_lock.specs.Steps.{MayAct, emptied}
use Rattle.atomic_table.specs.Seated.{TableId}
use Rattle.flow_lock.specs.Passes.{Seen}
use Rattle.flow_lock.specs.declared.view.View.{View}
use Rattle.flow_lock.proofs.Opening.{clears_it, opens_it}
use Rattle.flow_lock.proofs.table.FlowTable.open_at.Goals as goal

pub load-requires : goal.load-requires
load-requires g c =
    let slots = ap (λ (y : TableId). y.slots) c.self.view_is in
    let inv = c.self.invariant in
    let f = c.args.flow in
    let near : f.slot < c.self.inside.table.shared.table_id.slots = let h = c.requires.slot in omega arith in
    let view = ap (λ (s : Seen). s.view) c.pass.view_is in
    let i = c.pass.invariant in (
      ap (λ (s : Seen). s.table) c.pass.view_is ∙ (c.requires.pass.0 ∙ sym c.self.view_is),
      omega arith,
      clears_it g.R.Recorded.id _ _ _ f.slot c.requires.free.0 _ near (ap (λ (v : View). v.slow) view
          ∙ c.requires.pass.2) i.1 (ap (λ (v : View). get_elem? v.marks f.slot) view
          ∙ c.requires.free.1) c.requires.free.2,
    )

pub store-requires : goal.store-requires
store-requires g c =
    let slots = ap (λ (y : TableId). y.slots) c.self.view_is in
    let inv = c.self.invariant in
    let f = c.args.flow in
    let near : f.slot < c.self.inside.table.shared.table_id.slots = let h = c.requires.slot in omega arith in
    let view = ap (λ (s : Seen). s.view) c.pass.view_is in
    let i = c.pass.invariant in
    let M : Type 0 = Me (Option g.row.R.Denot) View in
    let l = c.load.ensures.2 in
    let x = c.exchange.ensures in
    let me : c.exchange.new.seat.me.0 ≡ emptied f.slot c.pass.inside.seat.me.0 = ap (λ (m : M). m.0) x.3
    ∙ ap (λ (m : M). m.0) l in
    let e1 = ap (λ (m : M). m.1) x.3 in
    let carried : c.exchange.new.seat.me.1 ≡ (f.slot, Some c.args.item) ∷ rest c.exchange.new.seat.me.1 = e1
    ∙ ap (λ r. (f.slot, Some c.args.item) ∷ r) (sym (ap rest e1)) in
    let parts = ap (λ (v : View). v.parts) me in (
      x.0 ∙ (c.load.ensures.0 ∙ (ap (λ (s : Seen). s.table) c.pass.view_is ∙ (c.requires.pass.0 ∙ sym c.self.view_is))),
      omega arith,
      opens_it g.R.Recorded.id (history_of g.R.Recorded.tuple g.R.Recorded.params g.R.Recorded.entries) _ _
          c.requires.free.0 f c.args.item c.exchange.new.seat.me c.requires.item.0 c.requires.item.1 near
          c.requires.free.3 (let h = c.write_word-word.type_inv in let q = c.write_word-word.ensures in omega arith)
          (ap (λ (v : View). v.slow) me ∙ (ap (λ (v : View). v.slow) view ∙ c.requires.pass.2)) (let h = i.2 in
          omega arith) (ap (λ (v : View). v.out) me)
          (ap (λ (v : View). get_elem? v.marks f.slot) me
          ∙ (ap (λ (v : View). get_elem? v.marks f.slot) view ∙ c.requires.free.1)) c.requires.free.2 carried
          (subst MayAct (sym (me ∙ ap (emptied f.slot) view)) c.requires.pass.1) _ c.write_word-word.ensures,
    )
