use Rattle.std.proofs.Common.{ap, sym, ◌∙◌, arith}
use Rattle.atomic_table.specs.Seated.{TableId}
use Rattle.flow_lock.specs.Passes.{Seen}
use Rattle.flow_lock.specs.declared.view.View.{View}
use Rattle.flow_lock.proofs.Taking.{carries_none}
use Rattle.flow_lock.proofs.Moving.{joins, tallies_it}
use Rattle.flow_lock.proofs.table.FlowTable.join_view.Goals as goal

pub join_seat-requires : goal.join_seat-requires
join_seat-requires g c =
    let slots = ap (λ (y : TableId). y.slots) c.self.view_is in
    let inv = c.self.invariant in
    let id = sym c.self.view_is in
    let h = c.requires.table in
    let view = ap (λ (s : Seen). s.view) c.from.view_is in
    let held = ap (λ (v : View). v.held) view ∙ c.requires.idle.1 in (
      ap (λ (s : Seen). s.table) c.into.view_is ∙ (h.0 ∙ id),
      ap (λ (s : Seen). s.table) c.from.view_is ∙ (h.1 ∙ id),
      carries_none c.from.inside.seat.me c.from.invariant.0 held c.from.invariant.1,
      omega arith,
      joins g.R.Recorded.id _ _ _ _ _ (ap (λ (v : View). v.slow) view
          ∙ c.requires.plain.0) (ap (λ (v : View). v.baton) view ∙ c.requires.plain.1) (ap (λ (v : View). v.pins) view
          ∙ c.requires.idle.0) held,
    )

pub load-requires : goal.load-requires
load-requires g c =
    let slots = ap (λ (y : TableId). y.slots) c.self.view_is in
    let inv = c.self.invariant in
    let id = sym c.self.view_is in (
      c.join_seat.ensures.0 ∙ (ap (λ (s : Seen). s.table) c.into.view_is ∙ (c.requires.table.0 ∙ id)),
      omega arith,
      tallies_it g.R.Recorded.id _ _ _ _ (omega arith),
    )
