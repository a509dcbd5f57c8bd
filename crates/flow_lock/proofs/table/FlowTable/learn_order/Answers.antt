use Rattle.std.proofs.Common.{ap, sym, ◌∙◌, subst, arith}
use Rattle.flow_lock.specs.Steps.{HasAll}
use Rattle.atomic_table.specs.Seated.{TableId}
use Rattle.flow_lock.specs.Passes.{Seen}
use Rattle.flow_lock.specs.declared.view.View.{View}
use Rattle.flow_lock.proofs.Moving.{learns_it}
use Rattle.flow_lock.proofs.table.FlowTable.learn_order.Goals as goal

pub load-requires : goal.load-requires
load-requires g c =
    let slots = ap (λ (y : TableId). y.slots) c.self.view_is in
    let inv = c.self.invariant in
    let id = sym c.self.view_is in
    let view = ap (λ (s : Seen). s.view) c.pass.view_is in (
      ap (λ (s : Seen). s.table) c.pass.view_is ∙ (c.requires.0 ∙ id),
      omega arith,
      learns_it g.R.Recorded.id _ _ _ _ (omega arith) (subst HasAll (sym view) c.requires.2)
          (ap (λ (v : View). v.baton) view ∙ c.requires.1),
    )
