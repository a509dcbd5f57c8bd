use Rattle.std.proofs.Common.{◌≡◌, ℕ, ◌+◌, ◌<◌, true, false, length, get_or, sym, ◌∙◌, ap, position, arith, List}
use Rattle.std.proofs.lemmas.List.Quantifiers.{position-Some}
use Rattle.flow_state.specs.declared.counts.CallerCount.{CallerCount}
use Rattle.flow_state.specs.Counts.{is_for, counted_for}
use Rattle.flow_state.proofs.Counting.{counted_at, counted_set, counted_push, none_found}
use Rattle.flow_state.proofs.counts.count_in.Goals as goal

pub overflow_add-index_mut : goal.overflow_add-index_mut
overflow_add-index_mut c =
    let xs : List CallerCount = c.args.counts.now.items in
    let d : CallerCount = c.index_mut.result.now in
    let there : (c.in-Some.i < length xs) × (is_for c.args.caller (get_or xs c.in-Some.i d) ≡ true)
    × ((k : ℕ) → k < c.in-Some.i → is_for c.args.caller (get_or xs k d) ≡ false) =
    position-Some (is_for c.args.caller) xs c.in-Some.i d
    (ap (position (is_for c.args.caller)) (sym c.deref.ensures.value) ∙ sym c.place_of.ensures ∙ c.in-Some.is) in
    let value : c.index_mut.result.now.made ≡ counted_for c.args.caller xs =
    ap (λ (x : CallerCount). x.made) c.index_mut.ensures.value
    ∙ sym (counted_at c.args.caller xs c.in-Some.i d there.0 there.1 there.2) in
    omega arith

pub returns-in-Some-clause-counted : goal.returns-in-Some-clause-counted
returns-in-Some-clause-counted c =
    let xs : List CallerCount = c.args.counts.now.items in
    let d : CallerCount = c.index_mut.result.now in
    let there : (c.in-Some.i < length xs) × (is_for c.args.caller (get_or xs c.in-Some.i d) ≡ true)
    × ((k : ℕ) → k < c.in-Some.i → is_for c.args.caller (get_or xs k d) ≡ false) =
    position-Some (is_for c.args.caller) xs c.in-Some.i d
    (ap (position (is_for c.args.caller)) (sym c.deref.ensures.value) ∙ sym c.place_of.ensures ∙ c.in-Some.is) in
    λ other. counted_set c.args.caller other xs c.in-Some.i d (record d { made = d.made + 1 }) there.0 there.1 there.2
    (ap (λ (x : CallerCount). record x { made = x.made + 1 }) c.index_mut.ensures.value)

pub returns-in-Ok-clause-counted : goal.returns-in-Ok-clause-counted
returns-in-Ok-clause-counted c =
    let xs : List CallerCount = c.args.counts.now.items in
    let d : CallerCount = record { caller = c.args.caller; made = 1 } in
    let fails : (k : ℕ) → k < length xs → is_for c.args.caller (get_or xs k d) ≡ false =
    none_found (is_for c.args.caller) xs d (ap (position (is_for c.args.caller)) (sym c.deref.ensures.value)
    ∙ sym c.place_of.ensures ∙ c.in-None.is) in
    λ other. rw c.in-Ok.ensures.items (counted_push c.args.caller other xs d fails)
