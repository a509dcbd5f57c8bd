-- Answers of the proof of desk/Desk/look.
use Rattle.std.proofs.Common.{refl, ◌∷◌, ap, sym, ◌∙◌, arith, eqb}
use Rattle.std.specs.Prelude.{Option, Some}
use mathlib.Core.Option as O
use prog.Atomic.{either}
use Rattle.atomic_table.specs.Table.{Me, rest, step}
use Rattle.crew.specs.declared.handover.View.{View}
use Rattle.crew.specs.Desks.{looks, claims}
use Rattle.crew.proofs.Handing.{allowed_at, looks_at, claims_at}
use Rattle.crew.proofs.desk.Desk.look.Goals as goal

pub load-word-requires : goal.load-word-requires
load-word-requires g c =
    let M : Type 0 = Me (Option g.row.W.Denot) (View g.row.W.Denot) in
    let free = c.requires in
    let slots = c.self.inside.table.shared.table_id.slots in
    let inv = c.self.invariant in (
      free.0 ∙ sym c.self.view_is,
      omega arith,
      allowed_at _ _ slots 0 (λ n. n) (step slots 0 0 0 O.none) looks _ _ _ _ refl free.1
          (looks_at g.W.Job.can g.W.Job.made slots c.args.worker.now.seat.id),
    )

pub compare_exchange-requires : goal.compare_exchange-requires
compare_exchange-requires g c =
    let M : Type 0 = Me (Option g.row.W.Denot) (View g.row.W.Denot) in
    let free = c.requires in
    let e = c.load-word.ensures in
    let slots = c.self.inside.table.shared.table_id.slots in
    let inv = c.self.invariant in
    let one = c.if-word-ne-JOB.false in
    let me = e.2.0 (λ three. absurd (omega (arith, one, three))) ∙ free.1 in (
      e.0 ∙ (free.0 ∙ sym c.self.view_is),
      omega arith,
      allowed_at _ _ slots 0 (λ n. either (eqb n 1) 4 n) (step slots 0 1 4 O.none)
          (claims g.W.Job.can g.W.Job.made) _ _ _ _ refl me
          (claims_at g.W.Job.can g.W.Job.made slots c.load-word.new.seat.id),
    )

pub exchange-requires : goal.exchange-requires
exchange-requires g c =
    let M : Type 0 = Me (Option g.row.W.Denot) (View g.row.W.Denot) in
    let e = c.compare_exchange.ensures in
    let x = e.2.1 c.if-compare_exchange-ne-JOB.false in
    let carried = ap (λ (m : M). m.1) x.2 in (
      e.0 ∙ (c.load-word.ensures.0 ∙ (c.requires.0 ∙ sym c.self.view_is)),
      (Some x.0, carried ∙ ap (λ l. (0, Some x.0) ∷ l) (sym (ap rest carried))),
    )
