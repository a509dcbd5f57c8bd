-- Answers of the proof of desk/Desk/serve.
use Rattle.std.proofs.Common.{refl, sym, ◌∙◌, arith}
use Rattle.std.specs.Prelude.{Option}
use mathlib.Core.Option as O
use Rattle.atomic_table.specs.Table.{Me, step}
use Rattle.crew.specs.declared.handover.View.{View}
use Rattle.crew.specs.Desks.{arrives}
use Rattle.crew.proofs.Handing.{allowed_at, arrives_it}
use Rattle.crew.proofs.desk.Desk.serve.Goals as goal

pub swap-requires : goal.swap-requires
swap-requires g c =
    let M : Type 0 = Me (Option g.row.W.Denot) (View g.row.W.Denot) in
    let away = c.requires in
    let slots = c.self.inside.table.shared.table_id.slots in
    let inv = c.self.invariant in (
      away.0 ∙ sym c.self.view_is,
      omega arith,
      allowed_at _ _ slots 1 (λ _. 1) (step slots 1 1 0 O.none) arrives _ _ _ _ refl away.1
          (arrives_it g.W.Job.can g.W.Job.made slots c.args.worker.now.seat.id),
    )
