-- Answers of the proof of desk/Desk/send.
use Rattle.std.proofs.Common.{◌≡◌, ◌∷◌, [], ap, sym, ◌∙◌, arith}
use Rattle.std.specs.Prelude.{Option, Some}
use mathlib.Core.Option as O
use Rattle.atomic_table.specs.Table.{Me, rest, step}
use Rattle.crew.specs.declared.handover.View.{View}
use Rattle.crew.specs.declared.handover.View.TheVariants.{Idle}
use Rattle.crew.specs.Desks.{hands_out}
use Rattle.crew.proofs.Handing.{allowed_at, hands_out_it}
use Rattle.crew.proofs.desk.Desk.send.Goals as goal

pub swap-requires : goal.swap-requires
swap-requires g c =
    let M : Type 0 = Me (Option g.row.W.Denot) (View g.row.W.Denot) in
    let x = c.exchange.ensures in
    let id = c.requires.idle in
    let slots = c.self.inside.table.shared.table_id.slots in
    let inv = c.self.invariant in
    let me : c.exchange.new.seat.me ≡ (Idle, (0, Some c.args.job) ∷ []) =
    x.3 ∙ ap (λ (m : M). (m.0, (0, Some c.args.job) ∷ rest m.1)) id.2 in (
      x.0 ∙ (id.0 ∙ sym c.self.view_is),
      omega arith,
      allowed_at _ _ slots 0 (λ _. 1) (step slots 0 1 0 O.none) hands_out _ _ _ _ (x.1 ∙ id.1) me
          (hands_out_it g.W.Job.can g.W.Job.made slots c.args.job c.requires.can),
    )
