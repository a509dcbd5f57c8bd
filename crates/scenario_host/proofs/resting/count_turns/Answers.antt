use Rattle.std.proofs.Common.{◌≡◌, ◌+◌, ℕ, suc, List, Some, slice_get, get_or, set, sym, ap, ◌∙◌, arith}
use Rattle.std.proofs.lemmas.List.{with_items_is}
use Rattle.scenario_runs.specs.Applications.{Script}
use Rattle.scenario_host.specs.Resting.{rested}
use Rattle.scenario_host.proofs.Walking.{get_at, set_same}
use Rattle.scenario_host.proofs.Rests.{both, seen_none, both_here, both_all, asleep_set, awake_past, resting_at}
use Rattle.scenario_host.proofs.Rests.{rests_less}
use Rattle.scenario_host.proofs.resting.count_turns.Goals.{Joined-is_marked, then-is_marked, else-is_marked}
use Rattle.scenario_host.proofs.resting.count_turns.Goals as goal

pub loop-place-init : goal.loop-place-init
loop-place-init c = c.deref_mut-script-items.ensures.value ∙ sym (seen_none c.args.asleep.now c.args.scripts.now.items)

pub rest_for-requires : goal.rest_for-requires
rest_for-requires c =
    let place = c.loop-place.place in
    let marks = c.args.asleep.now in
    let start = c.args.scripts.now.items in
    let script : Script = get_or c.loop-place.script-items place c.script-item.result in
    let here : slice_get start place ≡ Some script =
    sym (both_here c.args.passed place marks start)
    ∙ (ap (λ (ss : List Script). slice_get ss place) (sym c.loop-place.invariant)
    ∙ get_at c.loop-place.script-items place c.script-item.result
    (omega (arith, c.loop-place.auto.script-items, c.loop-place-test.true))) in
    (rests_less c.args.passed c.args.turns script c.requires.bound
    (resting_at c.args.turns place marks start script c.requires.resting
    (sym c.if-is_marked.ensures) here)).waits

pub loop-place-preserved : goal.loop-place-preserved
loop-place-preserved c =
    let place = c.loop-place.place in
    let passed = c.args.passed in
    let marks = c.args.asleep.now in
    let start = c.args.scripts.now.items in
    let script : Script = get_or c.loop-place.script-items place c.script-item.result in
    let next : suc place ≡ place + 1 = omega arith in
    let items_here : slice_get c.loop-place.script-items place ≡ Some script =
    get_at c.loop-place.script-items place c.script-item.result
    (omega (arith, c.loop-place.auto.script-items, c.loop-place-test.true)) in
    let here : slice_get start place ≡ Some script =
    sym (both_here passed place marks start)
    ∙ (ap (λ (ss : List Script). slice_get ss place) (sym c.loop-place.invariant) ∙ items_here) in
    elim c.if-is_marked.branch [
      | then-is_marked w ↦
          w.script-items-is
          ∙ (ap (set c.loop-place.script-items place) w.rest_for.ensures
          ∙ (ap (λ (ss : List Script). set ss place (rested passed script)) c.loop-place.invariant
          ∙ (asleep_set passed 0 place marks start script (sym w.if-is_marked.ensures) here
          ∙ ap (λ (k : ℕ). both passed 0 k marks start) next)))
      | else-is_marked w ↦
          w.script-items-is
          ∙ (set_same c.loop-place.script-items place script items_here
          ∙ (c.loop-place.invariant
          ∙ (awake_past passed 0 place marks start (sym w.if-is_marked.ensures)
          ∙ ap (λ (k : ℕ). both passed 0 k marks start) next)))
    ]

pub returns : goal.returns
returns c =
    with_items_is c.args.scripts.now c.loop-place.script-items (omega (arith, c.loop-place.auto.script-items))
    ∙ (c.loop-place.invariant
    ∙ both_all c.args.passed 0 c.loop-place.place c.args.asleep.now c.args.scripts.now.items
    (omega (arith, c.loop-place.auto.script-items, c.loop-place-test.false)))
