use Rattle.std.proofs.Common.{ap, sym, ◌∙◌, arith}
use Rattle.atomic_table.specs.Seated.{TableId}
use Rattle.flow_lock.specs.Passes.{Seen}
use Rattle.flow_lock.specs.declared.view.View.{View}
use Rattle.flow_lock.proofs.Moving.{splits}
use Rattle.flow_lock.proofs.table.FlowTable.split_view.Goals as goal

pub split_seat-requires : goal.split_seat-requires
split_seat-requires g c =
    let slots = ap (λ (y : TableId). y.slots) c.self.view_is in
    let inv = c.self.invariant in
    let id = sym c.self.view_is in
    let view = ap (λ (s : Seen). s.view) c.from.view_is in
    let parts = ap (λ (v : View). v.parts) view in
    let few = c.requires.1 in (
      ap (λ (s : Seen). s.table) c.from.view_is ∙ (c.requires.0 ∙ id),
      omega arith,
      splits g.R.Recorded.id _ _ _ (ap (λ (v : View). v.baton) view ∙ c.requires.2) (omega arith),
    )
