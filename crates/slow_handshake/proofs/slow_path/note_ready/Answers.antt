use Rattle.std.proofs.Common.{ℕ, ◌<◌, length, List, false, subst, set, get_or, ap, ◌∙◌}
use Rattle.slow_handshake.specs.declared.openings.PassiveFlow.{PassiveFlow}
use Rattle.slow_handshake.specs.Openings.{readied}
use Rattle.slow_handshake.proofs.Mapped.{mapped_at}
use Rattle.slow_handshake.proofs.slow_path.note_ready.Goals as goal

pub loop-flow-preserved : goal.loop-flow-preserved
loop-flow-preserved c =
    let i : ℕ = c.loop-flow.flow-index in
    let xs : List PassiveFlow = c.args.flows.now.items in
    let none : PassiveFlow = record { id = record { slot = 0; generation = 0 }; port = 0; ready = false } in
    let below : i < length xs =
    subst (λ (zs : List PassiveFlow). i < length zs) c.deref_mut-flow-items.ensures.value c.loop-flow-test.true in
    ap (set c.loop-flow.flow-items i) c.note_ready.ensures
    ∙ ap (λ (zs : List PassiveFlow). set zs i (readied c.args.id (get_or zs i none))) c.loop-flow.invariant
    ∙ mapped_at (readied c.args.id) xs i none below
