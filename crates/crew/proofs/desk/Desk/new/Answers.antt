-- Answers of the proof of desk/Desk/new.
use Rattle.std.proofs.Common.{arith}
use Rattle.std.specs.Prelude.{Option}
use mathlib.Core.Option as O
use Rattle.atomic_table.specs.Table.{Me, step}
use Rattle.crew.specs.declared.handover.View.{View}
use Rattle.crew.specs.Desks.{clears}
use Rattle.crew.proofs.Handing.{allowed_at, clears_it}
use Rattle.crew.proofs.desk.Desk.new.Goals as goal

pub load-requires : goal.load-requires
load-requires g c =
    let M : Type 0 = Me (Option g.row.W.Denot) (View g.row.W.Denot) in
    let e = c.in_ok-table.ensures in
    let slots = c.in_ok-table.table.shared.table_id.slots in
    let words = e.0 in (
      e.2,
      omega arith,
      allowed_at _ _ slots 0 (λ n. n) (step slots 0 0 0 O.none) clears _ _ _ _ e.3 e.4
          (clears_it g.W.Job.can g.W.Job.made slots),
    )
