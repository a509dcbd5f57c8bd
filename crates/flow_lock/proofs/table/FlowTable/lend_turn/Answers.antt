use Rattle.std.proofs.Common.{[], ◌∷◌, ap, sym, ◌∙◌, arith}
use Rattle.std.specs.Prelude.{Option}
use Rattle.atomic_table.specs.Table.{Me}
use Rattle.atomic_table.specs.Seated.{TableId}
use Rattle.flow_lock.specs.Passes.{Seen, new_turn}
use Rattle.flow_lock.specs.declared.view.View.{View}
use Rattle.flow_lock.proofs.Moving.{lends, fetches}
use Rattle.flow_lock.proofs.table.FlowTable.lend_turn.Goals as goal

pub split_seat-turn-requires : goal.split_seat-turn-requires
split_seat-turn-requires g c =
    let slots = ap (λ (y : TableId). y.slots) c.self.view_is in
    let inv = c.self.invariant in
    let id = sym c.self.view_is in
    let view = ap (λ (s : Seen). s.view) c.from.view_is in (
      ap (λ (s : Seen). s.table) c.from.view_is ∙ (c.requires.table.0 ∙ id),
      omega arith,
      lends g.R.Recorded.id _ _ _ (ap (λ (v : View). v.baton) view ∙ c.requires.baton),
    )

pub join_seat-requires : goal.join_seat-requires
join_seat-requires g c =
    let slots = ap (λ (y : TableId). y.slots) c.self.view_is in
    let inv = c.self.invariant in
    let id = sym c.self.view_is in
    let M : Type 0 = Me (Option g.row.R.Denot) View in
    let h = c.requires.table in
    let e = c.split_seat-turn.ensures in (
      ap (λ (s : Seen). s.table) c.to.view_is ∙ (h.1 ∙ id),
      e.3 ∙ (ap (λ (s : Seen). s.table) c.from.view_is ∙ (h.0 ∙ id)),
      ap (λ (m : M). m.1) e.4,
      omega arith,
      fetches g.R.Recorded.id _ _ _ _ _ (new_turn c.from.inside.seat.me.0.made ∷ []) (ap (λ (m : M). m.0) e.4),
    )
