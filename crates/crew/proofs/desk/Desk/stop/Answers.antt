-- Answers of the proof of desk/Desk/stop.
use Rattle.std.proofs.Common.{◌∷◌, [], sym, ◌∙◌, arith}
use Rattle.std.specs.Prelude.{Option, None}
use mathlib.Core.Option as O
use Rattle.atomic_table.specs.Table.{Me, step}
use Rattle.crew.specs.declared.handover.View.{View}
use Rattle.crew.specs.Desks.{stops}
use Rattle.crew.proofs.Handing.{allowed_at, stops_it}
use Rattle.crew.proofs.desk.Desk.stop.Goals as goal

pub swap-requires : goal.swap-requires
swap-requires g c =
    let M : Type 0 = Me (Option g.row.W.Denot) (View g.row.W.Denot) in
    let manned = c.requires.0 in
    let id = c.requires.1 in
    let slots = c.self.inside.table.shared.table_id.slots in
    let inv = c.self.invariant in (
      id.0 ∙ sym c.self.view_is,
      omega arith,
      allowed_at _ _ slots 0 (λ _. 3) (step slots 0 3 0 O.none) stops _ _ _ _ id.1 id.2
          (stops_it g.W.Job.can g.W.Job.made slots manned ((0, None) ∷ [])),
    )
