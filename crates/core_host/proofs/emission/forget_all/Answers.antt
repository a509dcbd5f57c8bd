-- Answers of the proof of emission/forget_all.
use Rattle.std.proofs.Common.{ℕ, ◌<◌, length, List, subst, set, get_or, ap, ◌∙◌}
use Rattle.host_rounds.proofs.Loops.{mapped_at}
use Rattle.core_phase.specs.declared.lane.Lane.{Lane}
use Rattle.core_host.specs.Emission.{untried}
use Rattle.core_host.proofs.emission.forget_all.Goals as goal

pub loop-lane-preserved : goal.loop-lane-preserved
loop-lane-preserved c =
    let i : ℕ = c.loop-lane.lane-index in
    let xs : List Lane = c.args.lanes.now.items in
    let lane : Lane = c.lane-item.result in
    let below : i < length xs =
    subst (λ (zs : List Lane). i < length zs) c.deref_mut-lane-items.ensures.value c.loop-lane-test.true in
    ap (set c.loop-lane.lane-items i) c.forget.ensures
    ∙ (ap (λ (zs : List Lane). set zs i (untried (get_or zs i lane))) c.loop-lane.invariant
    ∙ mapped_at untried xs i lane below)
