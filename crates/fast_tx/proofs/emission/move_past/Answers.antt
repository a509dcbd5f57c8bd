use Rattle.std.proofs.Common.{sym, subst, inl, inr}
use Rattle.flow_state.specs.Stands.{Stands}
use Rattle.fast_tx.specs.declared.piece.Piece.{Piece}
use Rattle.fast_tx.specs.Going.{going_as}
use Rattle.fast_tx.proofs.Alike.{nxt_near}
use Rattle.fast_tx.proofs.Told.{paid}
use Rattle.fast_tx.proofs.emission.move_past.Goals as goal

pub returns-in-Data-clause-after : goal.returns-in-Data-clause-after
returns-in-Data-clause-after c e v s =
    subst (λ (x : Piece). Stands c.move_next-in-Data.new.parts (going_as x e).after) (sym c.in-Data.is)
    (c.move_next-in-Data.ensures.after (paid e c.in-Data.len) (c.pay.ensures.after e s) v.tx.nxt (nxt_near e v))

pub returns-in-Syn-clause-after : goal.returns-in-Syn-clause-after
returns-in-Syn-clause-after c e v s =
    let moved = c.move_next.ensures.after e s v.tx.nxt (nxt_near e v) in
    elim c.in-Syn.is [
      | inl syn ↦ subst (λ (x : Piece). Stands c.move_next.new.parts (going_as x e).after) (sym syn) moved
      | inr fin ↦ subst (λ (x : Piece). Stands c.move_next.new.parts (going_as x e).after) (sym fin) moved
    ]
