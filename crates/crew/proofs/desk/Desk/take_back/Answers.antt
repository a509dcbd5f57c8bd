-- Answers of the proof of desk/Desk/take_back.
use Rattle.std.proofs.Common.{◌∷◌, ap, sym, ◌∙◌, arith}
use Rattle.std.specs.Prelude.{Option, Some}
use mathlib.Core.Option as O
use Rattle.atomic_table.specs.Table.{Step, Me, rest, step}
use Rattle.crew.specs.declared.handover.View.{View}
use Rattle.crew.specs.Desks.{takes_back}
use Rattle.crew.proofs.Handing.{allowed_at, takes_back_it, taken_back}
use Rattle.crew.proofs.desk.Desk.take_back.Goals as goal

pub load-requires : goal.load-requires
load-requires g c =
    let M : Type 0 = Me (Option g.row.W.Denot) (View g.row.W.Denot) in
    let out = c.requires.1 in
    let slots = c.self.inside.table.shared.table_id.slots in
    let inv = c.self.invariant in (
      out.0 ∙ sym c.self.view_is,
      omega arith,
      allowed_at _ _ slots 0 (λ n. n) (step slots 0 0 0 O.none) (takes_back g.W.Job.can g.W.Job.made) _ _ _ _
          out.1 out.2 (takes_back_it g.W.Job.can g.W.Job.made slots c.requires.0),
    )

pub exchange-requires : goal.exchange-requires
exchange-requires g c =
    let M : Type 0 = Me (Option g.row.W.Denot) (View g.row.W.Denot) in
    let out = c.requires.1 in
    let e = c.load.ensures in
    let look : Step (Option g.row.W.Denot) = step c.self.inside.table.shared.table_id.slots 0 0 0 O.none in
    let t = taken_back g.W.Job.can g.W.Job.made look _ c.requires.0 _ _ out.2 e.2 in
    let y = t.1 c.if-load-ne-DONE.false in
    let carried = ap (λ (m : M). m.1) y.2 in (
      e.0 ∙ (out.0 ∙ sym c.self.view_is),
      (Some y.0, carried ∙ ap (λ l. (0, Some y.0) ∷ l) (sym (ap rest carried))),
    )
