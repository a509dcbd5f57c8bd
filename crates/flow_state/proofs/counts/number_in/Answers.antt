use Rattle.std.proofs.Common.{◌≡◌, ℕ, ◌<◌, true, false, length, get_or, sym, ◌∙◌}
use Rattle.std.proofs.lemmas.List.Quantifiers.{position-Some}
use Rattle.tas_model.specs.declared.entry.Caller.TheVariants.{Slow}
use Rattle.flow_state.specs.declared.counts.CallerCount.{CallerCount}
use Rattle.flow_state.specs.Counts.{is_for}
use Rattle.flow_state.proofs.Counting.{counted_at, counted_none, none_found}
use Rattle.flow_state.proofs.counts.number_in.Goals as goal

pub returns-in-Some : goal.returns-in-Some
returns-in-Some c =
    let d : CallerCount = record { caller = Slow; made = 0 } in
    let there : (c.in-Some.i < length c.args.counts.now)
    × (is_for c.args.caller (get_or c.args.counts.now c.in-Some.i d) ≡ true)
    × ((k : ℕ) → k < c.in-Some.i → is_for c.args.caller (get_or c.args.counts.now k d) ≡ false) =
    position-Some (is_for c.args.caller) c.args.counts.now c.in-Some.i d (sym c.place_of.ensures ∙ c.in-Some.is) in
    sym (counted_at c.args.caller c.args.counts.now c.in-Some.i d there.0 there.1 there.2)

pub returns-in-None : goal.returns-in-None
returns-in-None c =
    let d : CallerCount = record { caller = Slow; made = 0 } in
    sym (counted_none c.args.caller c.args.counts.now d
    (none_found (is_for c.args.caller) c.args.counts.now d (sym c.place_of.ensures ∙ c.in-None.is)))
