use Rattle.std.proofs.Common.{◌<◌, ◌≤◌, ◌-◌, List, length, sym, subst, arith}
use Rattle.tas_model.specs.LegalHistory.{last_tick}
use Rattle.flow_state.specs.declared.stretch.Stretch.{Stretch}
use Rattle.flow_state.specs.Stretches.{AllWithin, entries_of}
use Rattle.flow_state.proofs.Pacing.{run_put, within_take}
use Rattle.flow_state.proofs.stretch.close_run.Goals as goal

pub drop_two-requires : goal.drop_two-requires
drop_two-requires c = subst (λ (xs : List Stretch). 2 ≤ length xs) c.deref.ensures.value c.in-Some.ensures.two

pub add_paced-requires-clause-placed : goal.add_paced-requires-clause-placed
add_paced-requires-clause-placed c =
    let ss : List Stretch = c.args.stretches.now.items in
    let n = c.requires.placed.0 in
    let k = c.requires.placed.1 in (
      n,
      k,
      subst (AllWithin n k) (sym c.drop_two.ensures.items)
          (within_take n k (length ss - 2) ss c.requires.placed.2),
    )

pub returns-in-Some-clause-entries : goal.returns-in-Some-clause-entries
returns-in-Some-clause-entries c memory =
    run_put memory c.args.stretches.now.items c.deref.result.now c.drop_two.new.stretches.items
    c.add_paced.new.stretches.items c.in-Some.run' c.deref.ensures.value c.drop_two.ensures.items
    (c.add_paced.ensures.entries memory) (c.in-Some.ensures.entries memory)

pub returns-in-Some-clause-within : goal.returns-in-Some-clause-within
returns-in-Some-clause-within c n k all =
    let ss : List Stretch = c.args.stretches.now.items in
    c.add_paced.ensures.within n k (subst (AllWithin n k) (sym c.drop_two.ensures.items)
    (within_take n k (length ss - 2) ss all))

pub returns-in-Some-clause-few : goal.returns-in-Some-clause-few
returns-in-Some-clause-few c memory low =
    let later : last_tick 0 (entries_of memory c.args.stretches.now.items) < c.args.tick =
    subst (λ (xs : List Stretch). last_tick 0 (entries_of memory xs) < c.args.tick) c.deref.ensures.value
    (c.in-Some.ensures.later memory) in
    omega (arith, later, c.add_paced.ensures.longer, c.drop_two.ensures.len)
