use Rattle.std.proofs.Common.{ap, sym, ◌∙◌, refl}
use Rattle.std.proofs.lemmas.Bool.{not-true}
use Rattle.std.proofs.lemmas.List.Quantifiers.{position-Some}
use mathlib.Core.Option as O
use lib.ListN.{get_elem?}
use Rattle.flow_lock.specs.Answers.{is_free}
use Rattle.flow_lock.proofs.Sums.{at_get}
use Rattle.flow_lock.proofs.table.FlowTable.open_flow.Goals as goal

pub open_at-requires-clause-free : goal.open_at-requires-clause-free
open_at-requires-clause-free g c =
    let m = c.index.result.now in
    let p = position-Some is_free c.slow.inside.marks.items c.in-Some.slot m
    (ap (λ l. Rattle.std.specs.Prelude.position is_free l) (sym c.deref.ensures.value)
    ∙ (sym c.first_free.ensures ∙ c.in-Some.is)) in (
      m,
      ap (λ l. get_elem? l c.in-Some.slot) c.slow.invariant.marks
          ∙ (at_get c.slow.inside.marks.items c.in-Some.slot m p.0 ∙ ap O.some (sym c.index.ensures)),
      not-true m.live (ap is_free c.index.ensures ∙ p.1),
      refl,
    )
