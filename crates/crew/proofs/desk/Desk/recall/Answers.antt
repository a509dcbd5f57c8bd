-- Answers of the proof of desk/Desk/recall.
use Rattle.std.proofs.Common.{◌∷◌, ap, sym, ◌∙◌, arith, eqb}
use Rattle.std.specs.Prelude.{Option, Some}
use mathlib.Core.Option as O
use prog.Atomic.{either}
use Rattle.atomic_table.specs.Table.{Step, Me, rest, step}
use Rattle.crew.specs.declared.handover.View.{View}
use Rattle.crew.specs.Desks.{recalls}
use Rattle.crew.proofs.Handing.{allowed_at, recalls_it, recalled}
use Rattle.crew.proofs.desk.Desk.recall.Goals as goal

pub compare_exchange-requires : goal.compare_exchange-requires
compare_exchange-requires g c =
    let M : Type 0 = Me (Option g.row.W.Denot) (View g.row.W.Denot) in
    let out = c.requires.1 in
    let slots = c.self.inside.table.shared.table_id.slots in
    let inv = c.self.invariant in (
      out.0 ∙ sym c.self.view_is,
      omega arith,
      allowed_at _ _ slots 0 (λ n. either (eqb n 1) 0 n) (step slots 0 1 0 O.none) recalls _ _ _ _ out.1 out.2
          (recalls_it g.W.Job.can g.W.Job.made slots c.requires.0),
    )

pub exchange-requires : goal.exchange-requires
exchange-requires g c =
    let M : Type 0 = Me (Option g.row.W.Denot) (View g.row.W.Denot) in
    let out = c.requires.1 in
    let e = c.compare_exchange.ensures in
    let taking : Step (Option g.row.W.Denot) = step c.self.inside.table.shared.table_id.slots 0 1 0 O.none in
    let told = recalled g.W.Job.can g.W.Job.made taking _ c.requires.0 _ _ out.2 e.2 in
    let y = told.1 c.if-compare_exchange-ne-JOB.false in
    let carried = ap (λ (m : M). m.1) y in (
      e.0 ∙ (out.0 ∙ sym c.self.view_is),
      (Some c.requires.0, carried ∙ ap (λ l. (0, Some c.requires.0) ∷ l) (sym (ap rest carried))),
    )
