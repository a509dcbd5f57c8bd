-- Answers of the proof of desk/Desk/work_on.
use Rattle.std.proofs.Common.{refl, ◌≡◌, ◌∷◌, [], ap, sym, ◌∙◌, arith}
use Rattle.std.specs.Prelude.{Option, Some}
use mathlib.Core.Option as O
use Rattle.atomic_table.specs.Table.{Me, rest, step}
use Rattle.crew.specs.declared.handover.View.{View}
use Rattle.crew.specs.declared.handover.View.TheVariants.{Works}
use Rattle.crew.specs.Desks.{hands_back}
use Rattle.crew.proofs.Handing.{allowed_at, hands_back_it}
use Rattle.crew.proofs.desk.Desk.work_on.Goals as goal

pub swap-requires : goal.swap-requires
swap-requires g c =
    let M : Type 0 = Me (Option g.row.W.Denot) (View g.row.W.Denot) in
    let x = c.exchange.ensures in
    let work = c.requires.work in
    let slots = c.self.inside.table.shared.table_id.slots in
    let inv = c.self.invariant in
    let me : c.exchange.new.seat.me ≡ (Works c.args.job, (0, Some c.work.new.self) ∷ []) =
    x.3 ∙ ap (λ (m : M). (m.0, (0, Some c.work.new.self) ∷ rest m.1)) work.1 in (
      x.0 ∙ (work.0 ∙ sym c.self.view_is),
      omega arith,
      allowed_at _ _ slots 0 (λ _. 2) (step slots 0 2 0 O.none) hands_back _ _ _ _ refl me
          (hands_back_it _ _ slots c.exchange.new.seat.id c.args.job c.work.new.self c.work.ensures),
    )
