use Rattle.std.proofs.Common.{◌≡◌, ◌<◌, [], ap, sym, ◌∙◌, subst, refl, arith}
use Rattle.std.specs.Prelude.{Option}
use Rattle.atomic_table.specs.Table.{Me}
use Rattle.flow_lock.specs.Claims.{holds_on, HasPin}
use Rattle.flow_lock.specs.Steps.{MayAct}
use Rattle.atomic_table.specs.Seated.{TableId}
use Rattle.flow_lock.specs.Passes.{Seen, Carries, IsOne}
use Rattle.flow_lock.specs.declared.view.View.{View}
use Rattle.tas_model.specs.declared.entry.FlowId.{FlowId}
use Rattle.flow_lock.proofs.Pinning.{lets_it_go}
use Rattle.flow_lock.proofs.table.FlowTable.unpin.Goals as goal

pub fetch_sub-requires : goal.fetch_sub-requires
fetch_sub-requires g c =
    let slots = ap (λ (y : TableId). y.slots) c.self.view_is in
    let inv = c.self.invariant in
    let id = c.pin.inside.flow in
    let pin = c.pin.view_is in
    let at = ap (λ (f : FlowId). f.slot) pin in
    let near : id.slot < c.self.inside.table.shared.table_id.slots = let h = c.requires.slot in omega arith in
    let view = ap (λ (s : Seen). s.view) c.pass.view_is in
    let back : c.args.pass.now.view ≡ c.pass.inside.seat.me.0 = sym view in (
      ap (λ (s : Seen). s.table) c.pass.view_is ∙ (c.requires.pass.0 ∙ sym c.self.view_is),
      omega arith,
      lets_it_go g.R.Recorded.id _ _ _ id _ near
          (subst (λ (v : View). HasPin v id) back (subst (HasPin c.args.pass.now.view) (sym pin) c.requires.pass.1))
          ((λ q. holds_on (at q) (view q)) ∙ c.requires.idle) (subst MayAct back c.requires.pass.2),
    )

pub invariant_of-pass : goal.invariant_of-pass
invariant_of-pass g c =
    let pin = c.pin.view_is in
    let view = ap (λ (s : Seen). s.view) c.pass.view_is in
    let has = subst (λ (v : View). HasPin v c.pin.inside.flow) (sym view)
    (subst (HasPin c.args.pass.now.view) (sym pin) c.requires.pass.1) in
    let M : Type 0 = Me (Option g.row.R.Denot) View in
    let e = c.fetch_sub.ensures.2 c.pin.inside.flow has refl in
    subst (λ (m : M). Carries m × (m.0.out ≡ []) × (0 < m.0.parts) × IsOne m.0) (sym e) c.pass.invariant
